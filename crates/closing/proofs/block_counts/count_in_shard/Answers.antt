use Rattle.std.proofs.Common.{ap, sym, ◌∙◌}
use Rattle.std.specs.FinSet as set
use Rattle.closing.proofs.Entries.{entered_at}
use Rattle.closing.proofs.block_counts.count_in_shard.Goals as goal

pub returns : goal.returns
returns g c =
    c.count.ensures.count
    ∙ ap (λ s. set.len s) (sym (entered_at c.args.tables.now c.args.cid.now c.shard_number.result c.index-tables-shard_number.result c.type_inv.tables c.shard_number.ensures.value c.shard_number.ensures.small c.index-tables-shard_number.is))

use Rattle.std.proofs.Common.{lit<, rules, ◌<◌, ◌^◌}
use prog.Memory.{size}
use denote.Param.{layout, param}
use Rattle.store.specs.contracts.shards.Shards as shards
use Rattle.fitting.proofs.Sizes.{field_fits}
use Rattle.store.proofs.shards.Shards.locks.Goals as goal

pub each_ref-requires : goal.each_ref-requires
each_ref-requires g c =
    let whole = layout (shards.the_row (param 0 g.row.D) (param 1 g.row.A) g.D.Digest g.A.Allocator) in
    let fits : size (layout (shards.the_row (param 0 g.row.D) (param 1 g.row.A) g.D.Digest g.A.Allocator)) < 2 ^ 63 = search rules in
    (field_fits whole 0 fits, lit< tt)

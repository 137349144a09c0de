use Rattle.kept.proofs.Entries.{taken_is}
use Rattle.kept.proofs.use_map.take_one.Goals as goal

pub returns-clause-taken : goal.returns-clause-taken
returns-clause-taken g c =
    taken_is c.args.blocks.now.entries c.remove_entry.new.self.entries c.in_ok-cid.field-0.now c.remove_entry.result
    c.remove_entry.ensures.same_key c.remove_entry.ensures.value c.remove_entry.ensures.updates.0 c.remove_entry.ensures.len

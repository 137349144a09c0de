use Rattle.rows.proofs.ReadingOn.{reader-first, reading-first}
use Rattle.rows.proofs.entries.KeyedEntries.of.Goals as goal

pub invariant_of-result : goal.invariant_of-result
invariant_of-result g c =
    reader-first c.args.view.now _ _ _ _ c.first.ensures c.first-2.ensures c.first-3.ensures c.reset.ensures c.entries.ensures.ascending

pub returns : goal.returns
returns g c = reading-first c.args.view.now _ _ _ c.first.ensures c.first-3.ensures c.reset.ensures

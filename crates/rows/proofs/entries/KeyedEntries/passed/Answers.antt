use Rattle.rows.proofs.ReadingOn.{reader-passes}
use Rattle.rows.proofs.entries.KeyedEntries.passed.Goals as goal

pub returns : goal.returns
returns g c =
    let r = c.self.inside in
    reader-passes r.gap r.last r.start r.key c.args.self.now _ c.self.invariant c.self.view_is c.passed.ensures.passed

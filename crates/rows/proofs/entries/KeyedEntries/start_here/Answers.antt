use Rattle.std.proofs.Common.{ap}
use Rattle.node.specs.Gaps.{GapIn}
use Rattle.rows.proofs.ReadingOn.{reader-key, reader-passes, starts-here}
use Rattle.rows.proofs.entries.KeyedEntries.start_here.Goals as goal

pub invariant_of-self : goal.invariant_of-self
invariant_of-self g c =
    let r = c.self.inside in
    starts-here r.gap r.last r.start c.again-self-inside.result r.key c.self.invariant c.again-self-inside.ensures

pub returns-clause-start : goal.returns-clause-start
returns-clause-start g c =
    let r = c.self.inside in
    reader-passes r.gap r.last r.start r.key c.args.self.now c.again-self-inside.result.passed c.self.invariant c.self.view_is
    (ap (λ (x : GapIn). x.passed) c.again-self-inside.ensures)

pub returns-clause-key : goal.returns-clause-key
returns-clause-key g c =
    let r = c.self.inside in
    reader-key r.gap r.last r.start r.key c.args.self.now c.self.invariant c.self.view_is

use Rattle.std.proofs.Common.{sym, subst}
use Rattle.node.specs.Gaps.{GapIn}
use Rattle.node.specs.Views.{row_of}
use Rattle.rows.specs.Entries.{IsReader}
use Rattle.rows.proofs.ReadingOn.{reader-next, reader-passed, reader-some, reader-room, reader-end}
use Rattle.rows.proofs.entries.KeyedEntries.next.Goals as goal

pub step-requires-clause-within : goal.step-requires-clause-within
step-requires-clause-within g c =
    let r = c.self.inside in
    (reader-room r.gap r.last r.start r.key (row_of c.in-Some.entry) _ c.self.invariant c.in-Some.ensures.entry).0

pub step-requires-clause-room : goal.step-requires-clause-room
step-requires-clause-room g c =
    let r = c.self.inside in
    (reader-room r.gap r.last r.start r.key (row_of c.in-Some.entry) _ c.self.invariant c.in-Some.ensures.entry).1

pub invariant_of-self-2 : goal.invariant_of-self-2
invariant_of-self-2 g c =
    let r = c.self.inside in
    subst (λ (x : GapIn). IsReader c.next.new.self x r.start c.step.new.self) (sym c.again-last.ensures)
    (reader-next r.gap c.next.new.self r.last r.start r.key c.step.new.self (row_of c.in-Some.entry)
    c.self.invariant c.in-Some.ensures.entry c.in-Some.ensures.passed c.step.ensures).reader

pub returns-clause-some : goal.returns-clause-some
returns-clause-some g c =
    let r = c.self.inside in
    reader-some r.gap c.next.new.self r.start r.key c.step.new.self (row_of c.in-Some.entry) c.args.self.now
    (reader-next r.gap c.next.new.self r.last r.start r.key c.step.new.self (row_of c.in-Some.entry)
    c.self.invariant c.in-Some.ensures.entry c.in-Some.ensures.passed c.step.ensures) c.self.view_is

pub returns-clause-passed : goal.returns-clause-passed
returns-clause-passed g c =
    let r = c.self.inside in
    reader-passed r.gap c.next.new.self r.start r.key c.step.new.self (row_of c.in-Some.entry) c.args.self.now
    (reader-next r.gap c.next.new.self r.last r.start r.key c.step.new.self (row_of c.in-Some.entry)
    c.self.invariant c.in-Some.ensures.entry c.in-Some.ensures.passed c.step.ensures) c.self.view_is

pub returns-in_default-clause-none : goal.returns-in_default-clause-none
returns-in_default-clause-none g c =
    let r = c.self.inside in
    reader-end r.gap r.start.passed r.key c.args.self.now c.in_default.ensures.none c.self.view_is

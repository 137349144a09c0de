use Rattle.std.proofs.Common.{rules, ◌+◌, length, sym, ap, ◌∙◌, arith}
use Rattle.change_commands.specs.Told.{told_from}
use Rattle.change_commands.specs.Views.{parts_of}
use Rattle.change_commands.proofs.Telling.{told_empty, told_next, told_none, told_done}
use Rattle.change_commands.proofs.told.told_of.Goals as goal

pub loop-line-preserved-then-is_empty : goal.loop-line-preserved-then-is_empty
loop-line-preserved-then-is_empty g c = (
  search rules,
  search rules,
  record {
    reading = c.loop-line.invariant.2.reading
        ∙ ap (λ ls. told_from (parts_of c.loop-line.parts) (c.loop-line.number + 1) ls) c.in-Some.ensures.steps
        ∙ told_empty (parts_of c.loop-line.parts) (c.loop-line.number + 1) c.in-Some.line.now c.next.new.self (sym c.is_empty.ensures ∙ c.if-is_empty.true);
    bound = omega (arith, ap length c.in-Some.ensures.steps, c.loop-line.invariant.2.bound);
  },
  c.loop-line.invariant.3,
)

pub loop-line-preserved : goal.loop-line-preserved
loop-line-preserved g c = (
  search rules,
  search rules,
  record {
    reading = c.loop-line.invariant.2.reading
        ∙ ap (λ ls. told_from (parts_of c.loop-line.parts) (c.loop-line.number + 1) ls) c.in-Some.ensures.steps
        ∙ told_next (parts_of c.loop-line.parts) (parts_of c.add.new.self) (c.loop-line.number + 1) c.in-Some.line.now c.next.new.self
        (sym c.is_empty.ensures ∙ c.if-is_empty.false) c.in_ok-is_next.is_next c.if-not-is_next.false c.in_ok-is_next.ensures.added;
    bound = omega (arith, ap length c.in-Some.ensures.steps, c.loop-line.invariant.2.bound);
  },
  c.in_ok-is_next.ensures.keyed,
)

pub returns-then-not-is_next-clause-told : goal.returns-then-not-is_next-clause-told
returns-then-not-is_next-clause-told g c =
    let fault = c.loop-line.invariant.2.reading
    ∙ ap (λ ls. told_from (parts_of c.loop-line.parts) (c.loop-line.number + 1) ls) c.in-Some.ensures.steps
    ∙ told_none (parts_of c.loop-line.parts) (parts_of c.add.new.self) (c.loop-line.number + 1) c.in-Some.line.now c.next.new.self
    (sym c.is_empty.ensures ∙ c.if-is_empty.false) c.in_ok-is_next.is_next c.if-not-is_next.true c.in_ok-is_next.ensures.added in
    search rules

pub returns-clause-told : goal.returns-clause-told
returns-clause-told g c =
    let whole = c.loop-line.invariant.2.reading
    ∙ ap (λ ls. told_from (parts_of c.loop-line.parts) (c.loop-line.number + 1) ls) c.in-None.ensures.steps.0
    ∙ told_done (parts_of c.loop-line.parts) (c.loop-line.number + 1) in
    search rules

pub loop-line-init : goal.loop-line-init
loop-line-init g c = search rules

use Rattle.std.proofs.Common.{ap, sym, ◌∙◌}
use Rattle.tree_command.specs.TreeText.{pairs_of_lines}
use Rattle.tree_command.proofs.Remaining.{onto, onto-pair, onto-fault, onto-done}
use Rattle.tree_command.proofs.listing.pairs_of_input.Goals as goal

pub loop-number-preserved : goal.loop-number-preserved
loop-number-preserved g c = (
  tt,
  tt,
  c.loop-number.invariant.2
      ∙ ap (λ ls. onto c.loop-number.pairs.items (pairs_of_lines c.args.taken ls)) c.in-Some.ensures.steps
      ∙ onto-pair c.args.taken c.loop-number.pairs.items c.in-Some.number c.in-Some.line.now c.next.new.self (c.in-Ok.pair.0.now, c.in-Ok.pair.1) c.in-Ok.ensures
      ∙ ap (λ es. onto es (pairs_of_lines c.args.taken c.next.new.self)) (sym c.in_ok-push_pair-in-Ok.ensures),
)

pub returns-in-Err : goal.returns-in-Err
returns-in-Err g c =
    c.loop-number.invariant.2
    ∙ ap (λ ls. onto c.loop-number.pairs.items (pairs_of_lines c.args.taken ls)) c.in-Some.ensures.steps
    ∙ onto-fault c.args.taken c.loop-number.pairs.items c.in-Some.number c.in-Some.line.now c.next.new.self _ c.in-Err.ensures

pub returns : goal.returns
returns g c =
    c.loop-number.invariant.2
    ∙ ap (λ ls. onto c.loop-number.pairs.items (pairs_of_lines c.args.taken ls)) c.in-None.ensures.steps.0
    ∙ onto-done c.args.taken c.loop-number.pairs.items

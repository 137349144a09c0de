use Rattle.std.proofs.Common.{◌≡◌, ℕ, ◌<◌, subst, ◌∷◌, [], sym, ap, ◌∙◌}
use Rattle.std.specs.Prelude.{option_map, Option, Some, IfSome}
use Rattle.scripts.specs.declared.script.Line.{Line}
use Rattle.std.proofs.lemmas.List.Elements.{All-push}
use Rattle.std.proofs.lemmas.List.{map-append}
use Rattle.run_command.specs.Script.{script_of_lines}
use Rattle.run_command.specs.Views.{view_of_line, view_of_lines}
use Rattle.run_command.proofs.Remaining.{onto, onto_line, onto_fault, onto_done}
use Rattle.run_command.proofs.script.lines.script_of.Goals as goal

worker_below : (workers : ℕ) (found : Option Line) (l : Line) → found ≡ Some l → IfSome found (λ x. x.worker < workers) → l.worker < workers
worker_below workers found l e h = subst (λ (o : Option Line). IfSome o (λ x. x.worker < workers)) e h

pub loop-number-preserved : goal.loop-number-preserved
loop-number-preserved c =
    let all = ap view_of_lines c.in_ok-push-in-Some-2.ensures.items ∙ map-append view_of_line c.loop-number.lines.items (c.in-Some-2.line ∷ []) in (
      tt,
      tt,
      c.loop-number.invariant.2
          ∙ ap (λ ls. onto (view_of_lines c.loop-number.lines.items) (script_of_lines c.args.workers c.args.did.now ls)) c.in-Some.ensures.steps
          ∙ onto_line c.args.workers c.args.did.now (view_of_lines c.loop-number.lines.items) c.in-Some.number c.in-Some.line.now c.next.new.self (view_of_line c.in-Some-2.line)
          (ap (option_map view_of_line) (sym c.in-Some-2.is) ∙ c.in_ok-line.ensures.line)
          ∙ ap (λ bs. onto bs (script_of_lines c.args.workers c.args.did.now c.next.new.self)) (sym all),
      rw c.in_ok-push-in-Some-2.ensures.items (All-push (λ x. x.worker < c.args.workers) c.loop-number.lines.items c.in-Some-2.line c.loop-number.invariant.3
          (worker_below c.args.workers _ c.in-Some-2.line c.in-Some-2.is c.in_ok-line.ensures.worker)),
    )

pub returns-in-None-2-clause-script : goal.returns-in-None-2-clause-script
returns-in-None-2-clause-script c =
    c.loop-number.invariant.2
    ∙ ap (λ ls. onto (view_of_lines c.loop-number.lines.items) (script_of_lines c.args.workers c.args.did.now ls)) c.in-Some.ensures.steps
    ∙ onto_fault c.args.workers c.args.did.now (view_of_lines c.loop-number.lines.items) c.in-Some.number c.in-Some.line.now c.next.new.self
    (ap (option_map view_of_line) (sym c.in-None-2.is) ∙ c.in_ok-line.ensures.line)

pub returns-clause-script : goal.returns-clause-script
returns-clause-script c =
    c.loop-number.invariant.2
    ∙ ap (λ ls. onto (view_of_lines c.loop-number.lines.items) (script_of_lines c.args.workers c.args.did.now ls)) c.in-None.ensures.steps.0
    ∙ onto_done c.args.workers c.args.did.now (view_of_lines c.loop-number.lines.items)

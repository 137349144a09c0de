use Rattle.std.proofs.Common.{◌≡◌, ◌<◌, All}
use Rattle.run_command.specs.Script.{script_in, script_of_lines}
use Rattle.run_command.specs.Views.{view_of_lines}
use Rattle.run_command.proofs.Remaining.{onto}
use Rattle.run_command.proofs.script.lines.script_of.Given as goal

abbrev pub invariant-loop-number : goal.invariant-loop-number
invariant-loop-number l =
    goal.iterator-loop-number.can_next l.number-iterator
    × goal.iterator-loop-number.is_finite l.number-iterator
    × (script_in l.fn.workers l.fn.did l.fn.text ≡ onto (view_of_lines l.lines.items) (script_of_lines l.fn.workers l.fn.did l.number-iterator))
    × All (λ x. x.worker < l.fn.workers) l.lines.items

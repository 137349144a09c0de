use Rattle.std.proofs.Common.{◌≡◌, None}
use Rattle.repository_commands.specs.Puts.{given_from, given_in}
use Rattle.repository_commands.specs.Views.{given_of}
use Rattle.repository_commands.proofs.Putting.{onto}
use Rattle.repository_commands.proofs.puts.puts_of_input.Given as goal

abbrev pub invariant-loop-number : goal.invariant-loop-number
invariant-loop-number g l =
    (goal.iterator-loop-number g).can_next l.number-iterator
    × (goal.iterator-loop-number g).is_finite l.number-iterator
    × (given_in l.form l.fn.input ≡ onto (given_of l.puts) (given_from l.form l.number-iterator))
    × ((given_of l.puts).stop ≡ None)

use Rattle.std.proofs.Common.{◌≡◌}
use Rattle.console.specs.Lines.{numbered_lines}
use Rattle.tree_command.specs.TreeText.{pairs_of_lines}
use Rattle.tree_command.proofs.Remaining.{onto}
use Rattle.tree_command.proofs.listing.pairs_of_input.Given as goal

abbrev pub invariant-loop-number : goal.invariant-loop-number
invariant-loop-number g l =
    (goal.iterator-loop-number g).can_next l.number-iterator
    × (goal.iterator-loop-number g).is_finite l.number-iterator
    × (pairs_of_lines l.fn.taken (numbered_lines l.fn.input) ≡ onto l.pairs.items (pairs_of_lines l.fn.taken l.number-iterator))

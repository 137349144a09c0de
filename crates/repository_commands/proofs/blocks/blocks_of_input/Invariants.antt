use Rattle.std.proofs.Common.{◌≡◌}
use Rattle.console.specs.Lines.{numbered_lines}
use Rattle.repository_commands.specs.Texts.{blocks_of_lines}
use Rattle.repository_commands.specs.Views.{blocks_of}
use Rattle.repository_commands.proofs.Listing.{onto}
use Rattle.repository_commands.proofs.blocks.blocks_of_input.Given as goal

abbrev pub invariant-loop-number : goal.invariant-loop-number
invariant-loop-number g l =
    (goal.iterator-loop-number g).can_next l.number-iterator
    × (goal.iterator-loop-number g).is_finite l.number-iterator
    × (blocks_of_lines (numbered_lines l.fn.input) ≡ onto (blocks_of l.blocks.items) (blocks_of_lines l.number-iterator))

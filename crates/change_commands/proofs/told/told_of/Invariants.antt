use Rattle.std.proofs.Common.{◌≡◌, true, length}
use Rattle.key_changes.specs.Keyed.{are_changes}
use Rattle.change_laws.specs.Told.{undone}
use Rattle.console.specs.Lines.{lines}
use Rattle.change_commands.specs.Told.{told_in}
use Rattle.change_commands.specs.Views.{parts_of}
use Rattle.change_commands.proofs.Telling.{ToldRemains}
use Rattle.change_commands.proofs.told.told_of.Given as goal

abbrev pub invariant-loop-line : goal.invariant-loop-line
invariant-loop-line g l =
    (goal.iterator-loop-line g).can_next l.line-iterator
    × (goal.iterator-loop-line g).is_finite l.line-iterator
    × ToldRemains (told_in (lines l.fn.text)) (length l.fn.text) l.number (parts_of l.parts) l.line-iterator
    × (are_changes (undone l.parts.changes.items) ≡ true)

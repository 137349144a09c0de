use Rattle.std.proofs.Common.{length}
use Rattle.change_commands.specs.Stories.{story_in}
use Rattle.change_commands.specs.Views.{story_of}
use Rattle.change_commands.proofs.Telling.{StoryRemains}
use Rattle.change_commands.proofs.story.story_of.Given as goal

abbrev pub invariant-loop-line : goal.invariant-loop-line
invariant-loop-line l =
    goal.iterator-loop-line.can_next l.line-iterator
    × goal.iterator-loop-line.is_finite l.line-iterator
    × StoryRemains l.form (story_in l.form l.fn.input) (length l.fn.input) l.number (story_of l.story) l.line-iterator

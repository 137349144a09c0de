-- What was read of a change, as the definitions see it.
use Rattle.std.specs.Prelude.{ℕ, Bool, true, false, List, Option, Some, None}
use Rattle.repository_commands.specs.Views.{blocks_of, given_of}
use Rattle.change_commands.specs.Stories.{Story}
use Rattle.change_commands.specs.Told.{Parts, Told}
use Rattle.change_commands.specs.declared.roots.Roots.{Roots}
use Rattle.change_commands.specs.declared.story.Story.{Story as GivenStory}
use Rattle.change_commands.specs.declared.told.Parts.{Parts as GivenParts}
use Rattle.change_commands.specs.declared.told.Told.{Told as GivenTold}

-- what the lines of `prove-change` give
abbrev pub story_of : GivenStory → Story
story_of s = record { before = given_of s.before; batch = given_of s.batch; is_parted = s.is_parted }

-- the roots that are known
abbrev pub roots_of : Roots → List ℕ × List ℕ
roots_of roots = (roots.before, roots.after)

-- what the lines of `verify-change` say
abbrev pub parts_of : GivenParts → Parts
parts_of p = record {
  before = p.before;
  after = p.after;
  changes = p.changes.items;
  numbers = p.numbers.items;
  blocks = blocks_of p.blocks.items;
}

-- with one more line, where it is one
abbrev pub parts_if : Bool → Parts → Option Parts
parts_if false p = None
parts_if true p = Some p

abbrev pub told_of : GivenTold → Told
told_of t = record {
  before = t.before;
  after = t.after;
  changes = t.changes.items;
  numbers = t.numbers.items;
  blocks = blocks_of t.blocks.items;
}

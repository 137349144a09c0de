-- The laws of messages.
use Rattle.std.specs.Prelude.{◌≡◌, ◌⊎◌, Contains, ℕ, List, Ok}
use Rattle.spec.specs.Cid.{IsDigest}
use Rattle.spec.specs.Tree.{Pair}
use Rattle.spec.specs.Blocks.{ArePairs, ClashesWithNone, nodes, root}
use Rattle.spec.specs.CarReading.{blocks_of}
use Rattle.batch_laws.specs.Batch.{AreAscending}
use Rattle.change_laws.specs.Laws.{change_path, IsShown}
use Rattle.change_laws.specs.Told.{KeyChange, undone, DifferBy}
use Rattle.event_laws.specs.Verdict.{Checked, commit_verdict, ordered_ops}

-- A node of the new tree that the old one hasn't is among those that undoing reads: so who has the old tree lacks nothing of
-- the new one where these are given. That no two blocks clash is not assumed.
abbrev pub NewNodesAreRead : Type 0
NewNodesAreRead = (digest : List ℕ → List ℕ) (bits : ℕ) (old new : List Pair) → ArePairs old → ArePairs new
    → (cs : List KeyChange) → AreAscending (undone cs) → DifferBy cs old new → (b : List ℕ)
    → Contains (nodes digest bits new) b → Contains (nodes digest bits old) b ⊎ Contains (change_path digest bits cs new) b

-- What is taken is true: of whatever pairs have the root of the signed commit, where no node of their tree clashes with a block
-- of the message, each operation's key has the value that is told, and the pairs with each operation undone have the root
-- before. Nothing of the message is believed.
abbrev pub TakenIsTrue : Type 0
TakenIsTrue = (digest : List ℕ → List ℕ) (bits : ℕ) → IsDigest digest → (previous message : List ℕ) (x : Checked)
    → commit_verdict digest bits previous message ≡ Ok x → (new : List Pair) → ArePairs new
    → x.commit.root ≡ root digest bits new → ClashesWithNone digest (nodes digest bits new) (blocks_of x.sections)
    → IsShown digest bits previous (ordered_ops x.event.ops) new

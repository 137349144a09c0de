-- The laws of one step after another.
use Rattle.std.specs.Prelude.{◌≡◌, ◌<◌, ◌^◌, ℕ, List, [], ◌∷◌, length, Ok}
use Rattle.spec.specs.Cid.{IsDigest}
use Rattle.spec.specs.Tree.{Pair}
use Rattle.spec.specs.Blocks.{ArePairs, ClashesWithNone, nodes, root}
use Rattle.batch_laws.specs.Batch.{AreKeyed, HaveOwnCids}
use Rattle.change_laws.specs.Told.{DifferBy}
use Rattle.step_laws.specs.Turned.{done}
use Rattle.step_laws.specs.Chain.{Step, steps_verdict, last_root, stepped, all_stepped}

-- what a step owes in these pairs: keys that ascend, CIDs of the host's form, pairs that can be counted, and no given block that
-- clashes with a node of the tree before
pub record IsFit (digest : List ℕ → List ℕ) (bits : ℕ) (es : List Pair) (s : Step) : Type 0 where
  pub keyed : AreKeyed (done s.changes)
  pub own : HaveOwnCids (done s.changes)
  pub few : length (stepped s es) < 2 ^ 64
  pub clash_free : ClashesWithNone digest (nodes digest bits es) s.given

abbrev pub AreFit : (List ℕ → List ℕ) → ℕ → List Pair → List Step → Type 0
AreFit digest bits es [] = Unit {0}
AreFit digest bits es (s ∷ ss) = IsFit digest bits es s × AreFit digest bits (stepped s es) ss

-- at each step each key had and has what is told, and the other keys have what they had
abbrev pub AreTold : List Pair → List Step → Type 0
AreTold es [] = Unit {0}
AreTold es (s ∷ ss) = DifferBy s.changes es (stepped s es) × AreTold (stepped s es) ss

-- the last root is that of the pairs that all changes leave, which are pairs
pub record AreDone (digest : List ℕ → List ℕ) (bits : ℕ) (es : List Pair) (ss : List Step) : Type 0 where
  pub last_is : last_root (root digest bits es) ss ≡ root digest bits (all_stepped ss es)
  pub pairs : ArePairs (all_stepped ss es)
  pub told : AreTold es ss

-- steps that are shown, from the root of some pairs on, lead to the root of pairs
abbrev pub StepsAreTrue : Type 0
StepsAreTrue = (digest : List ℕ → List ℕ) (bits : ℕ) → IsDigest digest → (es : List Pair) → ArePairs es → (ss : List Step)
    → AreFit digest bits es ss → steps_verdict digest bits (root digest bits es) ss ≡ Ok tt → AreDone digest bits es ss

-- from the empty tree on
abbrev pub StepsFromNothing : Type 0
StepsFromNothing = (digest : List ℕ → List ℕ) (bits : ℕ) → IsDigest digest → (ss : List Step)
    → AreFit digest bits [] ss → steps_verdict digest bits (root digest bits []) ss ≡ Ok tt → AreDone digest bits [] ss

-- whatever pairs have the last root are these, where no node of theirs clashes with one of the tree that the changes leave
abbrev pub StepsLeadTo : Type 0
StepsLeadTo = (digest : List ℕ → List ℕ) (bits : ℕ) → IsDigest digest → (es new : List Pair) → ArePairs es → ArePairs new
    → (ss : List Step) → AreFit digest bits es ss → steps_verdict digest bits (root digest bits es) ss ≡ Ok tt
    → last_root (root digest bits es) ss ≡ root digest bits new
    → ClashesWithNone digest (nodes digest bits new) (nodes digest bits (all_stepped ss es)) → new ≡ all_stepped ss es

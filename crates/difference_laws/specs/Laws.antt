-- The laws of the difference of two trees.
use Rattle.std.specs.Prelude.{◌≡◌, ◌≢◌, ◌↔◌, Contains, ◌≤◌, ℕ, List, [], ◌∷◌, ◌++◌, map, Option, Some, None, Ok}
use Rattle.std.specs.List.{AllByRecursion}
use Rattle.spec.specs.Cid.{IsDigest}
use Rattle.spec.specs.Layer.{layer as layer_of_key}
use Rattle.spec.specs.Tree.{Pair}
use Rattle.spec.specs.Blocks.{ArePairs, nodes, root}
use Rattle.edit_laws.specs.Pairs.{Each, IsAfter, Ascending}
use Rattle.edit_laws.specs.Changes.{count}
use Rattle.edit_laws.specs.Laws.Edits.{bytes_of}
use Rattle.spec.specs.Sources.{HasNodes}
use Rattle.edit_laws.specs.Sources.{shown_by}
use Rattle.batch_laws.specs.Batch.{Change, changed, AreAscending, AreKeyed}
use Rattle.change_laws.specs.Told.{KeyChange, undone, DifferBy}
use Rattle.change_laws.specs.Verdict.{change_verdict}
use Rattle.difference_laws.specs.Lines.{Side, links_in, pairs_of, compared}

-- ---- the list of changes

-- each change is one: the two values differ
abbrev pub AreReal : List KeyChange → Type 0
AreReal cs = AllByRecursion (λ c. c.before ≢ c.after) cs

-- the difference of two lists of pairs: keys ascend, each change is real and true, and no other key differs
pub record IsDifference (cs : List KeyChange) (old new : List Pair) : Type 0 where
  pub ascending : AreAscending (undone cs)
  pub real : AreReal cs
  pub differ : DifferBy cs old new

-- the same changes done: what makes the new pairs of the old ones
abbrev pub done : List KeyChange → List Change
done cs = map (λ c. (c.key, c.after)) cs

-- the difference is just the batch that leads from the old pairs to the new ones
abbrev pub DifferenceIsBatch : Type 0
DifferenceIsBatch = (cs : List KeyChange) (old new : List Pair) → ArePairs old → ArePairs new
    → IsDifference cs old new → changed (done cs) old ≡ new

-- ---- over a source that has the nodes of both trees

-- the blocks of the nodes that were read of a tree
abbrev pub blocks_read : Side → List (List ℕ)
blocks_read s = bytes_of s.read

-- of the old tree just the nodes were read that the new one lacks, each once, and so of the new one
pub record AreUnshared (digest : List ℕ → List ℕ) (bits : ℕ) (es fs : List Pair) (go come : List (List ℕ)) : Type 0 where
  pub go_is : (b : List ℕ) → Contains go b ↔ (Contains (nodes digest bits es) b × ¬ Contains (nodes digest bits fs) b)
  pub come_is : (b : List ℕ) → Contains come b ↔ (Contains (nodes digest bits fs) b × ¬ Contains (nodes digest bits es) b)
  pub go_once : (b : List ℕ) → count b go ≤ 1
  pub come_once : (b : List ℕ) → count b come ≤ 1

-- what two trees come to, opened side by side
pub record AreCompared (digest : List ℕ → List ℕ) (bits : ℕ) (es fs : List Pair) (a b : Side) : Type 0 where
  -- lines are pairs alone, in order
  pub old_ends : links_in a.line ≡ []
  pub new_ends : links_in b.line ≡ []
  pub old_ascends : Ascending (pairs_of a.line)
  pub new_ascends : Ascending (pairs_of b.line)
  -- what the lines differ by the pairs differ by
  pub differ : (cs : List KeyChange) → IsDifference cs (pairs_of a.line) (pairs_of b.line) → IsDifference cs es fs
  -- the old blocks without those read of the old tree, and with those read of the new one, are the new blocks
  pub unshared : AreUnshared digest bits es fs (blocks_read a) (blocks_read b)

-- from their roots
pub record HaveCompared (digest : List ℕ → List ℕ) (bits : ℕ) (gives : List ℕ → Option (List ℕ))
    (es fs : List Pair) : Type 0 where
  pub old : Side
  pub new : Side
  pub is : compared (shown_by gives) (layer_of_key digest bits) (root digest bits es) (root digest bits fs) ≡ Ok (old, new)
  pub are : AreCompared digest bits es fs old new

abbrev pub TreesAreCompared : Type 0
TreesAreCompared = (digest : List ℕ → List ℕ) (bits : ℕ) → IsDigest digest → (gives : List ℕ → Option (List ℕ))
    → (es fs : List Pair) → ArePairs es → ArePairs fs → HasNodes digest bits gives es → HasNodes digest bits gives fs
    → HaveCompared digest bits gives es fs

-- ---- the difference and proofs of changes

-- where the nodes that come are given, with the old ones, the verdict on the difference is that it is shown
abbrev pub DifferenceIsShown : Type 0
DifferenceIsShown = (digest : List ℕ → List ℕ) (bits : ℕ) → IsDigest digest → (gives : List ℕ → Option (List ℕ))
    → (es fs : List Pair) → ArePairs es → ArePairs fs → HasNodes digest bits gives es → HasNodes digest bits gives fs
    → (cs : List KeyChange) → AreKeyed (undone cs) → IsDifference cs es fs
    → (come : List (List ℕ)) → ((b : List ℕ) → Contains come b → Contains (nodes digest bits fs) b)
    → ((b : List ℕ) → Contains (nodes digest bits fs) b → (Contains (nodes digest bits es) b → ⊥) → Contains come b)
    → change_verdict digest bits (root digest bits es) (root digest bits fs) (come ++ nodes digest bits es) cs ≡ Ok tt

-- ---- how a difference is put together, from the last key to the first

-- one more key in front, which has this value, or none
abbrev pub front : Option (List ℕ) → List ℕ → List Pair → List Pair
front None k es = es
front (Some v) k es = (k, v) ∷ es

-- with a key before all others the difference has one change more where its two values differ, and else stays
abbrev pub MergesInFront : Type 0
MergesInFront = (k : List ℕ) (o p : Option (List ℕ)) (cs : List KeyChange) (es fs : List Pair) → Ascending es → Ascending fs
    → Each (IsAfter k) es → Each (IsAfter k) fs → IsDifference cs es fs
    → (o ≢ p → IsDifference (record { key = k; before = o; after = p } ∷ cs) (front o k es) (front p k fs))
    × (o ≡ p → IsDifference cs (front o k es) (front p k fs))

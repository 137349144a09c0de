-- What the change of one key answers, over the pairs of the tree.
use Rattle.std.specs.Prelude.{◌≡◌, ◌≤◌, ◌*◌, ◌++◌, ℕ, suc, max, length, List, Option}
use Rattle.spec.specs.Tree.{Pair, top}
use Rattle.spec.specs.Layer.{layer}
use Rattle.spec.specs.Blocks.{IsClashFree, value_of, nodes, root as root_of}
use Rattle.edit_laws.specs.TreeEdit.{layer_of}
use Rattle.edit_laws.specs.Changes.{AreChanges}

-- the greater of the top's layer and the key's
abbrev pub greatest_layer : (List ℕ → List ℕ) → ℕ → List Pair → List ℕ → ℕ
greatest_layer digest bits es key =
    max (layer_of (layer digest bits) (top (layer digest bits) es)) (layer digest bits key)

-- The tree of es becomes that of fs by a write of the key, for which these blocks were read: the new root, the blocks
-- that come, the CIDs of those that go, and the value that the key had.
pub record IsEditOf (digest : List ℕ → List ℕ) (bits : ℕ) (es fs : List Pair) (key : List ℕ) (read : List (List ℕ))
    (root : List ℕ) (add drop : List (List ℕ)) (previous : Option (List ℕ)) : Type 0 where
  pub root_is : root ≡ root_of digest bits fs
  pub previous_is : previous ≡ value_of key es
  pub changes : AreChanges digest (nodes digest bits es) (nodes digest bits fs) read add drop
  -- no block that comes clashes with another one or with one that was read
  pub clash_free : IsClashFree digest (add ++ read)
  pub count : length add ≤ 2 * suc (greatest_layer digest bits es key)

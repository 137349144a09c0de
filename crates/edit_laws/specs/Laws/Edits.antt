-- What holds of a put and of a delete alike: the new top, the nodes that were read and those that were made, and what the
-- set of blocks gains and loses by them.
use Rattle.std.specs.Prelude.{◌≡◌, Contains, ℕ, List, ◌++◌, map}
use Rattle.spec.specs.Tree.{Pair}
use Rattle.spec.specs.NodeFormat.{Shape, shape_bytes, shape_cid}
use Rattle.spec.specs.Blocks.{IsClashFree, nodes, root}
use Rattle.edit_laws.specs.Changes.{AreChanges, add_of, drop_of}

abbrev pub bytes_of : List Shape → List (List ℕ)
bytes_of ss = map shape_bytes ss

-- the tree of es becomes that of fs
pub record IsEdit (digest : List ℕ → List ℕ) (bits : ℕ) (es fs : List Pair) (new_top : Shape)
    (read gone made : List Shape) : Type 0 where
  pub root_is : root digest bits fs ≡ shape_cid digest new_top
  pub read_old : (b : List ℕ) → Contains (bytes_of read) b → Contains (nodes digest bits es) b
  pub made_new : (b : List ℕ) → Contains (bytes_of made) b → Contains (nodes digest bits fs) b
  -- where no two of the nodes made and read clash
  pub changes : IsClashFree digest (bytes_of made ++ bytes_of read)
      → AreChanges digest (nodes digest bits es) (nodes digest bits fs) (bytes_of read)
      (add_of digest (bytes_of read) (bytes_of made)) (drop_of digest (bytes_of made) (bytes_of gone))

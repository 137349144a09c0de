-- Unsigned commits (AT Protocol repository v3, commit objects: without the field sig), and what
-- belongs to a repository with a commit.
use Rattle.std.specs.Prelude.{ℕ, List, [], ◌∷◌, codes, pos, Option, Some, None, option_map}
use Rattle.spec.specs.Cid.{cid}
use Rattle.spec.specs.DagCbor.{Value, Null, Integer, Text, Fields, Link, NoEntry, EntryThen}
use Rattle.spec.specs.DagCbor.{spelling}
use Rattle.spec.specs.Blocks.{blocks, repository_root}
use Rattle.spec.specs.Car.{car_of}
use Rattle.spec.specs.Stamps.{Stamp}

-- the map of whose repository it is, the revision, a link to the root of the tree, no commit
-- before this one, and version 3 of the repository format
abbrev pub value_of_commit : Stamp → List ℕ → Value
value_of_commit stamp root =
    Fields (EntryThen (codes "did") (Text stamp.did)
    (EntryThen (codes "rev") (Text stamp.rev)
    (EntryThen (codes "data") (Link root)
    (EntryThen (codes "prev") Null
    (EntryThen (codes "version") (Integer (pos 3)) NoEntry)))))

-- its bytes
unfoldable pub commit_bytes : Stamp → List ℕ → List ℕ
commit_bytes stamp root = spelling (value_of_commit stamp root)

-- ---- of a record map and the stamp of the last batch, where there is one

-- the block of the commit over a root, as a list of one, or of none before the first batch
abbrev pub commit_blocks : Option Stamp → List ℕ → List (List ℕ)
commit_blocks None root = []
commit_blocks (Some stamp) root = commit_bytes stamp root ∷ []

-- all blocks: the commit, the nodes of the tree, and the records. Those that are used more than
-- once, as a record under two keys, stand in the list once for each use.
abbrev pub committed_blocks : (List ℕ → List ℕ) → ℕ → Option Stamp → List (List ℕ × List ℕ)
    → List (List ℕ)
committed_blocks digest bits stamp m =
    blocks digest bits (commit_blocks stamp (repository_root digest bits m)) m

-- the CID of the commit over a root
abbrev pub commit_cid : (List ℕ → List ℕ) → Option Stamp → List ℕ → Option (List ℕ)
commit_cid digest stamp root = option_map (λ s. cid digest (commit_bytes s root)) stamp

-- the root that an export names: the commit, and before the first batch the root of the tree (a
-- choice of this project)
abbrev pub car_root : Option (List ℕ) → List ℕ → List ℕ
car_root None root = root
car_root (Some commit) root = commit

-- the export (CARv1)
abbrev pub committed_car : (List ℕ → List ℕ) → ℕ → Option Stamp → List (List ℕ × List ℕ) → List ℕ
committed_car digest bits stamp m =
    let root = repository_root digest bits m in
    car_of digest (car_root (commit_cid digest stamp root) root)
    (committed_blocks digest bits stamp m)

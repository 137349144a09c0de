-- The file of a repository that a server serves: its root is a signed commit (AT Protocol repository
-- v3, commit objects; CARv1).
use Rattle.std.specs.Prelude.{ℕ, List, [], ◌++◌, Option, None, option_map}
use Rattle.std.specs.List.{flat_map}
use Rattle.spec.specs.Cid.{cid}
use Rattle.spec.specs.Car.{header, section}
use Rattle.spec.specs.Blocks.{blocks, firsts, repository_root}
use Rattle.spec.specs.Stamps.{Stamp}
use Rattle.spec.specs.SignedCommits.{Commit, signed_bytes}
use Rattle.spec.specs.States.{State, records, last_stamp}

-- the commit of a stamp over a root, with this signature; it names no commit before it
abbrev pub signed_commit : Stamp → List ℕ → List ℕ → Commit
signed_commit stamp root sig =
    record { did = stamp.did; rev = stamp.rev; sig = sig; root = root; prev = None }

-- that over the tree of a record map
abbrev pub signed_over : (List ℕ → List ℕ) → ℕ → Stamp → List ℕ → List (List ℕ × List ℕ) → Commit
signed_over digest bits stamp sig m = signed_commit stamp (repository_root digest bits m) sig

-- its block
abbrev pub signed_block : (List ℕ → List ℕ) → ℕ → Stamp → List ℕ → List (List ℕ × List ℕ)
    → List ℕ
signed_block digest bits stamp sig m = signed_bytes (signed_over digest bits stamp sig m)

-- the file whose root is this block: the header, the section of the block, and then one for each of
-- these blocks whose CID comes first among them
abbrev pub car_over : (List ℕ → List ℕ) → List ℕ → List (List ℕ) → List ℕ
car_over digest top bs =
    header (cid digest top)
    ++ (section digest top ++ flat_map (section digest) (firsts (cid digest) bs))

-- the file of a signed commit and of the nodes and records under it, in the order of
-- `committed_car` (a choice of this project)
abbrev pub signed_car : (List ℕ → List ℕ) → ℕ → Stamp → List ℕ → List (List ℕ × List ℕ) → List ℕ
signed_car digest bits stamp sig m =
    car_over digest (signed_block digest bits stamp sig m) (blocks digest bits [] m)

-- that of a state: its commit is that of the last batch, so before the first one there is none
abbrev pub state_signed_car : (List ℕ → List ℕ) → ℕ → State → List ℕ → Option (List ℕ)
state_signed_car digest bits s sig =
    option_map (λ stamp. signed_car digest bits stamp sig (records s)) (last_stamp s)

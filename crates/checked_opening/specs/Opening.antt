-- The repository that is opened with the records of a file.
use Rattle.std.specs.Prelude.{◌≡◌, ℕ, true, List, [], ◌∷◌, map, Ok}
use Rattle.std.specs.List.{AllByRecursion}
use Rattle.std.specs.Cmp.Lexicographic.{slice_cmp}
use Rattle.std.specs.Ordering.{nat_cmp}
use Rattle.std.specs.FinMap.{is_sorted}
use Rattle.spec.specs.Keys.{is_repository_key}
use Rattle.spec.specs.Writes.{Write, Create, record_test}
use Rattle.spec.specs.Stamps.{Stamp, is_did, is_tid}
use Rattle.spec.specs.States.{State, fresh, after_batch, state_test}
use Rattle.spec.specs.Blocks.{repository_root}
use Rattle.spec.specs.SignedCommits.{Commit}
use Rattle.signed_commits.specs.Views.{commit_of}
use Rattle.repository_check.specs.Views.{records_of}
use Rattle.repository_check.specs.declared.repository.Repository.{Repository}

-- ---- one batch

-- the write that creates a record under its key
abbrev pub create_in : List ℕ × List ℕ → Write
create_in e = Create e.0 e.1

-- one for each record
abbrev pub creates : List (List ℕ × List ℕ) → List Write
creates m = map create_in m

-- the stamp of a commit
abbrev pub stamp_in : Commit → Stamp
stamp_in c = record { did = c.did; rev = c.rev }

-- after a batch of these writes; without writes there is no batch
abbrev pub after_one : State → Stamp → List Write → State
after_one s stamp [] = s
after_one s stamp (w ∷ ws) = after_batch s stamp (w ∷ ws)

-- the batch is taken, where there is one
abbrev pub Passes : State → Stamp → List Write → Type 0
Passes s stamp [] = Unit {0}
Passes s stamp (w ∷ ws) = state_test s stamp (w ∷ ws) ≡ Ok tt

-- ---- the repository

-- the records of a commit, created at once
abbrev pub opened : ℕ → ℕ → Commit → List (List ℕ × List ℕ) → State
opened me limit c m = after_one (fresh me limit) (stamp_in c) (creates m)

-- of a file that was checked
abbrev pub state_of : {A : Type 0} → ℕ → ℕ → Repository A → State
state_of me limit r = opened me limit (commit_of r.commit) (records_of r)

-- the root that its commit names
abbrev pub root_in : {A : Type 0} → Repository A → List ℕ
root_in r = (commit_of r.commit).root

-- ---- what can be opened

-- the commit's DID and revision are lawful, the records are and stand in ascending order of lawful
-- keys, and the commit names the root of their tree
pub record AreOpenable (digest : List ℕ → List ℕ) (bits : ℕ) (c : Commit)
    (m : List (List ℕ × List ℕ)) : Type 0 where
  pub did : is_did c.did ≡ true
  pub rev : is_tid c.rev ≡ true
  pub sorted : is_sorted (slice_cmp nat_cmp) m ≡ true
  pub keys : AllByRecursion (λ e. is_repository_key e.0 ≡ true) m
  pub records : AllByRecursion (λ e. record_test e.1 ≡ Ok tt) m
  pub root_is : c.root ≡ repository_root digest bits m

abbrev pub IsOpenable : {A : Type 0} → (List ℕ → List ℕ) → ℕ → Repository A → Type 0
IsOpenable digest bits r = AreOpenable digest bits (commit_of r.commit) (records_of r)

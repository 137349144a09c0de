-- Published versions.
use Rattle.std.specs.Prelude.{◌≡◌, true, ℕ, List, length}
use Rattle.spec.specs.Writes as ws
use Rattle.spec.specs.Writes.{leaves, is_lawful_list}
use Rattle.spec.specs.Blocks.{repository_root}
use Rattle.spec.specs.States.{State, state_root}
use Rattle.batches.specs.Values.{shared_writes}
use Rattle.host.specs.Seeing.{IsSeen, Wanted}
use Rattle.host.specs.declared.version.Version.{Version}

abbrev pub version_writes : {A : Type 0} → Version A → List ws.Write
version_writes v = shared_writes v.writes.items

-- its writes are a lawful list, its number is their count, and its root is that of the tree from
-- scratch of the records that they leave
pub record IsVersion {A : Type 0} (digest : List ℕ → List ℕ) (bits : ℕ) (v : Version A)
    : Type 0 where
  pub writes_are : is_lawful_list (version_writes v) ≡ true
  pub number_is : v.number ≡ length (version_writes v)
  pub root_is : v.root ≡ repository_root digest bits (leaves (version_writes v))

-- the version is that of this state
pub record IsVersionIn {A : Type 0} (digest : List ℕ → List ℕ) (bits : ℕ) (s : State)
    (v : Version A) : Type 0 where
  pub writes_are : version_writes v ≡ s.accepted
  pub number_is : v.number ≡ length s.accepted
  pub root_is : v.root ≡ state_root digest bits s
  pub repo_is : v.repo ≡ s.me

-- the version is that of a lawful state of the wanted repository, of at least as many writes as were
-- seen there
abbrev pub IsOfState : {A : Type 0} → (List ℕ → List ℕ) → ℕ → Wanted → Version A → Type 0
IsOfState digest bits w v = (s : State) × IsSeen w s
    × (version_writes v ≡ s.accepted) × (v.number ≡ length s.accepted)
    × (v.root ≡ state_root digest bits s) × (v.repo ≡ w.repo)

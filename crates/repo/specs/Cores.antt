-- What a core keeps of its state.
use Rattle.std.specs.Prelude.{◌≡◌, ◌≤◌, ℕ, List, Option, Contains, map, nat_eq}
use Rattle.std.specs.Cmp.Lexicographic.{pointwise}
use Rattle.std.specs.List.{IsDistinct}
use Rattle.spec.specs.Cid.{cid}
use Rattle.spec.specs.States.{State, IsLawful, state_root, state_blocks, state_commit}
use Rattle.kept.specs.Counts.{Keeping}
use Rattle.repo.specs.Keeping.{AreKept}

-- A core's fields are those of its state, which is lawful: the root, the last commit, and the
-- blocks with their uses.
pub record IsCore (digest : List ℕ → List ℕ) (bits : ℕ) (s : State) (root : List ℕ)
    (commit : Option (List ℕ)) (k : Keeping) : Type 0 where
  pub least_bits : 1 ≤ bits
  pub most_bits : bits ≤ 8
  pub lawful : IsLawful s
  pub root_is : root ≡ state_root digest bits s
  pub commit_is : commit ≡ state_commit digest bits s
  pub kept : AreKept digest (state_blocks digest bits s) k.uses

-- the second list has the blocks of the first, each once: no two of it have one CID
pub record AreEachOnce (digest : List ℕ → List ℕ) (all once : List (List ℕ)) : Type 0 where
  pub among : (b : List ℕ) → Contains once b → Contains all b
  pub whole : (b : List ℕ) → Contains all b → Contains once b
  pub apart : IsDistinct (pointwise nat_eq) (map (cid digest) once)

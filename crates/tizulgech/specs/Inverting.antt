-- What is told of what shows changes that are undone.
use Rattle.std.specs.Prelude.{◌≡◌, ℕ, List, Option, Some, None, Result, Ok, Err}
use Rattle.sha2.specs.Sha256.{sha256}
use Rattle.spec.specs.Blocks.{pairs}
use Rattle.spec.specs.States.{State, records}
use Rattle.change_laws.specs.Told.{KeyChange}
use Rattle.change_laws.specs.Given.{ChangeFault as GivenFault}
use Rattle.change_laws.specs.Given as given
use Rattle.change_laws.specs.Laws.{change_path}
use Rattle.change_proofs.specs.Provings.{told_by}
use Rattle.buffers.specs.Answers.{IsHanded, parts_bytes}

-- the bytes spell the nodes that undoing reads, and each key has what is told after its change
pub record IsSpelt (s : State) (cs : List KeyChange) (bytes : List ℕ) : Type 0 where
  pub told_is : told_by (pairs sha256 (records s)) cs ≡ Ok tt
  pub bytes_are : bytes ≡ parts_bytes (change_path sha256 2 cs (pairs sha256 (records s)))

-- the nodes, where each key has what is told after its change; else 33, and the place of the first that hasn't
abbrev pub IsProvenBy : Result (Unit {0}) GivenFault → ℕ → ℕ → List ℕ → List ℕ → ℕ → List (List ℕ) → Type 0
IsProvenBy (Ok ok) code place before room size path = IsHanded code (parts_bytes path) before room size
IsProvenBy (Err (given.BlockMissing c)) code place before room size path = ⊥
IsProvenBy (Err (given.BadNode c)) code place before room size path = ⊥
IsProvenBy (Err given.TooDeep) code place before room size path = ⊥
IsProvenBy (Err given.NotTree) code place before room size path = ⊥
IsProvenBy (Err (given.OtherValue at)) code place before room size path = (code ≡ 33) × (place ≡ at)
IsProvenBy (Err given.OtherRoot) code place before room size path = ⊥

abbrev pub IsProvenOf : ℕ → ℕ → List ℕ → List ℕ → ℕ → State → List KeyChange → Type 0
IsProvenOf code place before room size s cs =
    let es = pairs sha256 (records s) in
    IsProvenBy (told_by es cs) code place before room size (change_path sha256 2 cs es)

-- 252 for what are no changes
abbrev pub IsProven : ℕ → ℕ → List ℕ → List ℕ → ℕ → State → Option (List KeyChange) → Type 0
IsProven code place before room size s None = code ≡ 252
IsProven code place before room size s (Some cs) = IsProvenOf code place before room size s cs

-- What shows the changes between two repositories.
use Rattle.std.specs.Prelude.{◌≡◌, Contains, ℕ, true, List, map, Ok}
use Rattle.std.specs.Arc.{arc_value}
use Rattle.std.specs.declared.sync.Arc.{Arc}
use Rattle.spec.specs.Blocks.{ClashesWithNone, nodes, pairs}
use Rattle.spec.specs.States.{State, records, state_root}
use Rattle.key_changes.specs.Keyed.{are_changes}
use Rattle.change_laws.specs.Told.{KeyChange, undone}
use Rattle.change_laws.specs.Verdict.{change_verdict}
use Rattle.change_proofs.specs.Provings.{ShowsChanges, told_by}
use Rattle.difference_laws.specs.Laws.{IsDifference}

-- these changes can be proved of a repository: they are keyed, and each key has what is told after its change
pub record AreTrue (digest : List ℕ → List ℕ) (s : State) (cs : List KeyChange) : Type 0 where
  pub keyed : are_changes (undone cs) ≡ true
  pub told : told_by (pairs digest (records s)) cs ≡ Ok tt

-- wherever these nodes are given, changes that led to the repository's tree are shown
abbrev pub IsShownBy : {A : Type 0} → (List ℕ → List ℕ) → ℕ → State → List KeyChange → List (Arc (List ℕ) A) → Type 0
IsShownBy digest bits s cs nodes = ShowsChanges digest bits s cs nodes

-- The changes are the difference of two repositories, and who knows both roots and is given these nodes, among others with which
-- no node of the new tree clashes, is shown them.
pub record IsSpan {A : Type 0} (digest : List ℕ → List ℕ) (bits : ℕ) (old new : State) (cs : List KeyChange)
    (shown : List (Arc (List ℕ) A)) : Type 0 where
  pub differ : IsDifference cs (pairs digest (records old)) (pairs digest (records new))
  pub shows : (given : List (List ℕ)) → ClashesWithNone digest (nodes digest bits (pairs digest (records new))) given
      → ((b : List ℕ) → Contains (map arc_value shown) b → Contains given b)
      → change_verdict digest bits (state_root digest bits old) (state_root digest bits new) given cs ≡ Ok tt

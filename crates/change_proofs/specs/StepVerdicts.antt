-- What is answered of a step over given blocks.
use Rattle.std.specs.Prelude.{◌≡◌, Contains, ℕ, List, Result, IfErr, OnOk}
use Rattle.spec.specs.Tree.{Pair}
use Rattle.spec.specs.Blocks.{ArePairs, ClashesWithNone, IsClashFree, nodes, root as root_of}
use Rattle.change_laws.specs.Told.{KeyChange, DifferBy}
use Rattle.change_laws.specs.Given.{given_at}
use Rattle.change_laws.specs.Laws.{node_cids}
use Rattle.step_laws.specs.Step.{step_verdict}
use Rattle.step_laws.specs.StepLaws.{IsDone, step_path}
use Rattle.change_proofs.specs.Verdicts.{IsSaid, IsOfATree, IsWant}
use Rattle.change_proofs.specs.declared.change_fault.ChangeFault.{ChangeFault}

module _ (digest : List ℕ → List ℕ) (bits : ℕ) (before after : List ℕ) (given : List (List ℕ)) (cs : List KeyChange)
    (result : Result (Unit {0}) ChangeFault) where
  -- what is answered is the verdict, but for want of memory
  abbrev pub IsStepVerdict : Type 0
  IsStepVerdict = IsSaid (given_at digest given) (step_verdict digest bits before after given cs) result

  -- where the root before is that of some pairs, a step that is shown leads to the root of these pairs with its changes done
  abbrev pub IsStepRight : Type 0
  IsStepRight = (old : List Pair) → ArePairs old → before ≡ root_of digest bits old
      → ClashesWithNone digest (nodes digest bits old) given → OnOk result (IsDone digest bits after cs old)

  -- over all or some blocks of the tree before nothing is said against a block, and one that is missing is a node of that tree
  abbrev pub IsStepOfTree : Type 0
  IsStepOfTree = (old : List Pair) → ArePairs old → before ≡ root_of digest bits old
      → IsClashFree digest (nodes digest bits old) → ClashesWithNone digest (nodes digest bits old) given
      → IfErr result (IsOfATree (node_cids digest bits old))

  -- and a true step is shown where the nodes are given that doing its changes reads
  abbrev pub IsStepWhole : Type 0
  IsStepWhole = (old new : List Pair) → ArePairs old → ArePairs new → before ≡ root_of digest bits old
      → after ≡ root_of digest bits new → ClashesWithNone digest (nodes digest bits old) given → DifferBy cs old new
      → ((b : List ℕ) → Contains (step_path digest bits cs old) b → Contains given b) → IfErr result IsWant

-- The two ways in which given blocks show a change: it is done in the tree before, or undone in the tree after.
use Rattle.std.specs.Prelude.{ℕ, List, Result}
use Rattle.change_laws.specs.Told.{KeyChange}
use Rattle.change_laws.specs.Given as laws
use Rattle.change_laws.specs.Verdict.{change_verdict}
use Rattle.step_laws.specs.Step.{step_verdict}
use Rattle.change_proofs.specs.Verdicts.{IsOfTree, IsVerdict, IsWhole}
use Rattle.change_proofs.specs.StepVerdicts.{IsStepOfTree, IsStepVerdict, IsStepWhole}
use Rattle.change_proofs.specs.declared.change_fault.ChangeFault.{ChangeFault}
use Rattle.change_commands.specs.declared.direction.Direction.{Direction}
use Rattle.change_commands.specs.declared.direction.Direction.TheVariants as directions

-- whether the tree with the root before becomes that with the root after by these changes, as these blocks show
abbrev pub verdict_on : (List ℕ → List ℕ) → Direction → List ℕ → List ℕ → List (List ℕ) → List KeyChange
    → Result (Unit {0}) laws.ChangeFault
verdict_on digest directions.Forward before after given cs = step_verdict digest 2 before after given cs
verdict_on digest directions.Inversion before after given cs = change_verdict digest 2 before after given cs

-- what a verifier says: the verdict; that true changes are shown where the nodes are given; and that nothing is said against a
-- tree's nodes
abbrev pub IsAnswer : (List ℕ → List ℕ) → Direction → List ℕ → List ℕ → List (List ℕ) → List KeyChange
    → Result (Unit {0}) ChangeFault → Type 0
IsAnswer digest directions.Forward before after given cs result =
    IsStepVerdict digest 2 before after given cs result
    × IsStepWhole digest 2 before after given cs result
    × IsStepOfTree digest 2 before after given cs result
IsAnswer digest directions.Inversion before after given cs result =
    IsVerdict digest 2 before after given cs result
    × IsWhole digest 2 before after given cs result
    × IsOfTree digest 2 before after given cs result

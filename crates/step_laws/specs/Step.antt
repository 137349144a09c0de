-- What given blocks show of a step from one root to the next: the changes done in the tree before lead to the root after. The
-- nodes of the tree after are not read, nor those of the tree before in which nothing changes.
use Rattle.std.specs.Prelude.{ℕ, List, Result}
use Rattle.change_laws.specs.Told.{KeyChange}
use Rattle.change_laws.specs.Given.{ChangeFault}
use Rattle.change_laws.specs.Verdict.{change_verdict}
use Rattle.step_laws.specs.Turned.{turned}

-- Whether the tree with the root before becomes that with the root after by these changes, whose keys ascend: the verdict of the
-- way back. `OtherValue` is of a value before, `OtherRoot` of the root after.
abbrev pub step_verdict : (List ℕ → List ℕ) → ℕ → List ℕ → List ℕ → List (List ℕ) → List KeyChange
    → Result (Unit {0}) ChangeFault
step_verdict digest bits before after given cs = change_verdict digest bits after before given (turned cs)

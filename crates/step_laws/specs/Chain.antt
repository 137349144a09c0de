-- One step after another.
use Rattle.std.specs.Prelude.{ℕ, List, [], ◌∷◌, Result, Ok}
use Rattle.spec.specs.Reading.{◌>>=◌}
use Rattle.spec.specs.Tree.{Pair}
use Rattle.batch_laws.specs.Batch.{changed}
use Rattle.change_laws.specs.Told.{KeyChange}
use Rattle.change_laws.specs.Given.{ChangeFault}
use Rattle.step_laws.specs.Turned.{done}
use Rattle.step_laws.specs.Step.{step_verdict}

-- the root that a step is to lead to, the blocks that show it, and its changes
pub record Step : Type 0 where
  pub after : List ℕ
  pub given : List (List ℕ)
  pub changes : List KeyChange

-- each leads on from where the one before it led
abbrev pub steps_verdict : (List ℕ → List ℕ) → ℕ → List ℕ → List Step → Result (Unit {0}) ChangeFault
steps_verdict digest bits before [] = Ok tt
steps_verdict digest bits before (s ∷ ss) = do
  shown ← step_verdict digest bits before s.after s.given s.changes
  steps_verdict digest bits s.after ss

-- where they lead
abbrev pub last_root : List ℕ → List Step → List ℕ
last_root before [] = before
last_root before (s ∷ ss) = last_root s.after ss

-- the pairs after one
abbrev pub stepped : Step → List Pair → List Pair
stepped s es = changed (done s.changes) es

-- the pairs after all of them
abbrev pub all_stepped : List Step → List Pair → List Pair
all_stepped [] es = es
all_stepped (s ∷ ss) es = all_stepped ss (stepped s es)

-- The pairs of a repository's tree before and after a batch.
use Rattle.std.specs.Prelude.{ℕ, List}
use Rattle.spec.specs.Blocks.{pairs}
use Rattle.spec.specs.Writes.{Write}
use Rattle.spec.specs.States.{State, records}
use Rattle.batch_laws.specs.Batch.{changed}
use Rattle.batch_laws.specs.Collecting.{collected, with_cids}

-- the pairs of the state's tree
abbrev pub old_pairs : (List ℕ → List ℕ) → State → List (List ℕ × List ℕ)
old_pairs digest s = pairs digest (records s)

-- the pairs after a batch
abbrev pub new_pairs : (List ℕ → List ℕ) → State → List Write → List (List ℕ × List ℕ)
new_pairs digest s batch = changed (with_cids digest (collected batch)) (old_pairs digest s)

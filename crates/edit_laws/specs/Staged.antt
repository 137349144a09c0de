-- A batch on its way: the records after some of its writes, and the commit from before it.
use Rattle.std.specs.Prelude.{◌++◌, ℕ, List}
use Rattle.spec.specs.Writes.{Write, leaves}
use Rattle.spec.specs.Commits.{commit_blocks}
use Rattle.spec.specs.States.{State, last_stamp, state_root}

-- the records after some writes of a batch
abbrev pub records_after : State → List Write → List (List ℕ × List ℕ)
records_after s before = leaves (s.accepted ++ before)

-- the commit from before the batch, as a list of one block, or of none before the first one
abbrev pub old_commit : (List ℕ → List ℕ) → ℕ → State → List (List ℕ)
old_commit digest bits s = commit_blocks (last_stamp s) (state_root digest bits s)

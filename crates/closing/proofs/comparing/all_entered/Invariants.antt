use Rattle.std.proofs.Common.{ℕ, ◌<◌, slice_index_or}
use Rattle.spec.specs.States.{State}
use Rattle.closing.specs.Tally.{IsEntered}
use Rattle.closing.proofs.comparing.all_entered.Given as goal

abbrev pub invariant-loop-core : goal.invariant-loop-core
invariant-loop-core g l = (place : ℕ) (d : State) → place < l.core-index → IsEntered g.D.Digest.digest_of g.row.B (slice_index_or l.cores place d) l.tables

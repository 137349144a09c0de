use Rattle.std.proofs.Common.{ℕ, ◌<◌, ◌≤◌, length, slice_index, slice_index_or}
use Rattle.spec.specs.States.{State}
use Rattle.closing.proofs.seeing.none_short.Given as goal

abbrev pub invariant-loop-place : goal.invariant-loop-place
invariant-loop-place g l = (place : ℕ) (d : State) → place < l.place → slice_index l.seen place ≤ length (slice_index_or l.cores place d).accepted

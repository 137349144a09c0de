use Rattle.std.proofs.Common.{ℕ, ◌<◌, slice_index_or}
use Rattle.ended.specs.Ending.{EndedView}
use Rattle.closing.specs.Settling.{NoneShort}
use Rattle.closing.proofs.seeing.all_long.Given as goal

abbrev pub invariant-loop-one : goal.invariant-loop-one
invariant-loop-one g l = (place : ℕ) (d : EndedView) → place < l.one-index → NoneShort l.cores (slice_index_or l.ended place d).seen

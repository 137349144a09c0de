use Rattle.std.proofs.Common.{◌≡◌, drop}
use Rattle.ended.specs.Ending.{kept_by}
use Rattle.closing.proofs.closed.Closed.kept.Given as goal

abbrev pub invariant-loop-settled : goal.invariant-loop-settled
invariant-loop-settled g l = kept_by (drop l.settled-index l.settled-items) l.writer ≡ kept_by l.settled-items l.writer

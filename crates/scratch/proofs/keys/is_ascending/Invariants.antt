use Rattle.std.proofs.Common.{◌≡◌, drop}
use Rattle.spec.specs.NodeFormat.{is_ascending as is_ascending_of}
use Rattle.scratch.specs.Pairs.{pairs_of}
use Rattle.scratch.proofs.Ascending.{ascends}
use Rattle.scratch.proofs.keys.is_ascending.Given as goal

-- the rest decides
abbrev pub invariant-loop-key : goal.invariant-loop-key
invariant-loop-key g l = is_ascending_of (pairs_of g.K.AsSlice.items l.pairs) ≡ ascends l.before (pairs_of g.K.AsSlice.items (drop l.key-index l.pairs))

use Rattle.std.proofs.Common.{◌≡◌, map}
use Rattle.spec.specs.Proof.{verified_within}
use Rattle.export.proofs.verifying_among.value_among.Given as goal

abbrev pub invariant-loop-left : goal.invariant-loop-left
invariant-loop-left g l =
    verified_within l.initial.left g.D.Digest.digest_of (map g.K.AsSlice.items l.blocks) l.key l.initial.cid
    ≡ verified_within l.left g.D.Digest.digest_of (map g.K.AsSlice.items l.blocks) l.key l.cid

abbrev pub decreases-loop-left : goal.decreases-loop-left
decreases-loop-left g l = l.left

use Rattle.std.proofs.Common.{◌≡◌, drop, map}
use Rattle.buffers.specs.Framing.{cid_at, onto, with_values}
use Rattle.buffers.proofs.cids.pairs.Given as goal

-- the pairs so far, and then the rest
abbrev pub invariant-loop-part : goal.invariant-loop-part
invariant-loop-part l = with_values cid_at (map (λ part. part.now) l.parts) l.cids ≡ onto (map (λ pair. (pair.0.items, pair.1)) l.pairs.items) (with_values cid_at (map (λ part. part.now) (drop l.part-index l.parts)) l.rest)

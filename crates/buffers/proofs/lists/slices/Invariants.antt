use Rattle.std.proofs.Common.{◌≡◌, drop, map}
use Rattle.buffers.specs.Framing.{cut, onto}
use Rattle.buffers.proofs.lists.slices.Given as goal

-- the parts so far, and then the rest
abbrev pub invariant-loop-end : goal.invariant-loop-end
invariant-loop-end l = cut 0 l.ends l.bytes ≡ onto (map (λ part. part.now) l.parts.items) (cut l.start (drop l.end-index l.ends) l.rest)

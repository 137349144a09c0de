use Rattle.std.proofs.Common.{map, slice_index_or, [], nat_eq}
use Rattle.std.specs.Arc.{arc_value}
use Rattle.std.specs.HashMap.{get}
use Rattle.std.specs.Cmp.Lexicographic.{pointwise}
use Rattle.scratch.proofs.Seen.{Sees}
use Rattle.scratch.proofs.clashes.find_clash.Given as goal

-- each CID so far has a place
abbrev pub invariant-loop-place : goal.invariant-loop-place
invariant-loop-place g l =
    Sees g.D.Digest.digest_of (λ i. slice_index_or (map arc_value l.blocks) i []) l.place (get (pointwise nat_eq) l.seen)

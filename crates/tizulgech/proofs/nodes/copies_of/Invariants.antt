use Rattle.std.proofs.Common.{◌≡◌, ◌++◌, drop, map}
use Rattle.tizulgech.proofs.nodes.copies_of.Given as goal

abbrev pub invariant-loop-part : goal.invariant-loop-part
invariant-loop-part l = map (λ part. part.now) l.parts ≡ map (λ bytes. bytes.items) l.lists.items ++ map (λ part. part.now) (drop l.part-index l.parts)

use Rattle.std.proofs.Common.{◌≡◌, map, take}
use Rattle.change_proofs.proofs.given_blocks.copies.Given as goal

abbrev pub invariant-loop-bytes : goal.invariant-loop-bytes
invariant-loop-bytes g l =
    map (λ bytes. bytes.items) l.lists.items ≡ map g.K.AsSlice.items (take l.bytes-index l.given)

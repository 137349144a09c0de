use Rattle.std.proofs.Common.{length}
use Rattle.hex.specs.Hex.{encode_lower}
use Rattle.console.proofs.Leaving.{Leaves}
use Rattle.console.proofs.writing.write_hex.Given as goal

abbrev pub invariant-pieces : goal.invariant-pieces
invariant-pieces g l = Leaves (g.W.Write.contents l.initial.out) (g.W.Write.contents l.out) (encode_lower l.bytes) (encode_lower l.rest)

abbrev pub decreases-pieces : goal.decreases-pieces
decreases-pieces g l = length l.rest

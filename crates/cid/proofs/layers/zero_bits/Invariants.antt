use Rattle.std.proofs.Common.{◌≡◌, ◌+◌, ◌*◌, drop}
use Rattle.spec.specs.Layer.{zero_bits}
use Rattle.cid.proofs.layers.zero_bits.Given as goal

-- the bytes so far are zero, and the rest decides
abbrev pub invariant-loop-byte : goal.invariant-loop-byte
invariant-loop-byte l = record { so_far : l.zeros ≡ 8 * l.byte-index; rest : zero_bits l.bytes ≡ l.zeros + zero_bits (drop l.byte-index l.bytes) }

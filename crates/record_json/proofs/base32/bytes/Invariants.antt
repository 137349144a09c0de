use Rattle.std.proofs.Common.{◌≡◌, map}
use Rattle.std.specs.List.{range_with_len}
use Rattle.spec.specs.Cid.{letter_value, eight_bits}
use Rattle.record_json.proofs.base32.bytes.Given as goal

abbrev pub invariant-loop-j : goal.invariant-loop-j
invariant-loop-j g l = l.bytes.items ≡ map (eight_bits (map letter_value l.letters)) (range_with_len 0 l.j)

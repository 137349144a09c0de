use Rattle.std.proofs.Common.{◌≡◌, ◌∷◌, map}
use Rattle.std.specs.List.{range_with_len}
use Rattle.spec.specs.Cid.{letter}
use Rattle.record_json.proofs.base32.cid_text.Given as goal

abbrev pub invariant-loop-i : goal.invariant-loop-i
invariant-loop-i g l = l.text.items ≡ 98 ∷ map (letter l.cid) (range_with_len 0 l.i)

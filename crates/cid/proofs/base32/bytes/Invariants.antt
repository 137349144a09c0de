use Rattle.std.proofs.Common.{◌≡◌, ℕ, ◌<◌, ◌*◌, true, map, take, length, get_or}
use Rattle.std.specs.List.{range_with_len}
use Rattle.spec.specs.Cid.{eight_bits, letter_value}
use Rattle.cid.proofs.Groups.{are_values}
use Rattle.cid.proofs.base32.bytes.Given as goal

-- the letters so far are in the alphabet; the bytes so far are theirs if the others are, as a group's last byte is rounded by the letter after it
abbrev pub invariant-loop-group : goal.invariant-loop-group
invariant-loop-group l = record {
  size : length l.bytes ≡ 36;
  in_alphabet : (k : ℕ) → k < 8 * l.group → get_or (map letter_value l.letters) k 0 < 32;
  written : are_values (map letter_value l.letters) ≡ true
      → take (5 * l.group) l.bytes ≡ map (eight_bits (map letter_value l.letters)) (range_with_len 0 (5 * l.group));
}

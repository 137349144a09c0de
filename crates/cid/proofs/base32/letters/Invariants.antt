use Rattle.std.proofs.Common.{◌≡◌, ◌*◌, length, take, map}
use Rattle.std.specs.List.{range_with_len}
use Rattle.spec.specs.Cid.{letter}
use Rattle.cid.proofs.base32.letters.Given as goal

-- the groups so far are written
abbrev pub invariant-loop-group : goal.invariant-loop-group
invariant-loop-group l = record { size : length l.letters ≡ 58; written : take (8 * l.group) l.letters ≡ map (letter l.bytes) (range_with_len 0 (8 * l.group)) }

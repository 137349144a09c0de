use Rattle.std.proofs.Common.{◌≡◌, map, vec_capacity}
use Rattle.scripts.specs.Scripts.{AreByPlace}
use Rattle.scripts.proofs.running.placed.Given as goal

abbrev pub invariant-loop-seat : goal.invariant-loop-seat
invariant-loop-seat l = record {
  seats : map (λ p. p.seat) l.places.items ≡ l.yielded;
  places : AreByPlace l.places.items;
  room : vec_capacity l.places ≡ vec_capacity l.initial.places;
}

use Rattle.std.proofs.Common.{◌≡◌, All, map, vec_capacity, []}
use Rattle.host.specs.Views.{fresh_seat}
use Rattle.host.proofs.opening.seats_of.Given as goal

abbrev pub invariant-loop-pass : goal.invariant-loop-pass
invariant-loop-pass g l = record {
  seats : l.seats.items ≡ map (fresh_seat l.repos) l.yielded;
  room : vec_capacity l.seats ≡ vec_capacity l.initial.seats;
  left : All (λ p. p.sent ≡ []) l.pass-iterator.rest.items;
}

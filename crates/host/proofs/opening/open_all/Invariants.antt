use Rattle.std.proofs.Common.{◌≡◌, ◌≤◌, length, vec_capacity}
use Rattle.host.proofs.opening.open_all.Given as goal

abbrev pub invariant-loop-me : goal.invariant-loop-me
invariant-loop-me g l = record {
  opened : length l.repositories.items ≡ l.me;
  room : l.count ≤ vec_capacity l.repositories;
}

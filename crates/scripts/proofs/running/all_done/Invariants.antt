use Rattle.std.proofs.Common.{◌≡◌, map, Ok, vec_capacity}
use Rattle.scripts.proofs.running.all_done.Given as goal

abbrev pub invariant-loop-result : goal.invariant-loop-result
invariant-loop-result g l = record {
  all : l.yielded ≡ map Ok l.all.items;
  room : vec_capacity l.all ≡ vec_capacity l.initial.all;
}

use Rattle.std.proofs.Common.{◌≡◌, map, vec_capacity}
use Rattle.scripts.proofs.running.parted.Given as goal

abbrev pub invariant-loop-one : goal.invariant-loop-one
invariant-loop-one g l = record {
  ended : l.ended.items ≡ map (λ d. d.ended) l.yielded;
  answers : l.given.items ≡ map (λ d. d.answers) l.yielded;
  room : vec_capacity l.ended ≡ vec_capacity l.initial.ended;
  more_room : vec_capacity l.given ≡ vec_capacity l.initial.given;
}

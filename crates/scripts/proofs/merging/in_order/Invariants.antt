use Rattle.std.proofs.Common.{◌≡◌, map}
use Rattle.std.specs.Prelude.{vec_capacity}
use Rattle.scripts.proofs.Merged.{AreMerged}
use Rattle.scripts.proofs.merging.in_order.Given as goal

abbrev pub invariant-loop-line : goal.invariant-loop-line
invariant-loop-line g l = record {
  merged : AreMerged (map (λ q. q.items) l.initial.given.items) l.lines l.line-index l.answers.items (map (λ q. q.items) l.given.items);
  room : vec_capacity l.answers ≡ vec_capacity l.initial.answers;
}

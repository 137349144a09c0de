use Rattle.std.proofs.Common.{◌≡◌}
use Rattle.event_writing.specs.Sources.{given_size}
use Rattle.event_writing.proofs.EachOp.{Tests}
use Rattle.event_writing.proofs.left.test_sizes.Given as goal

abbrev pub invariant-loop-place : goal.invariant-loop-place
invariant-loop-place g l = record {
  same : g.S.Source.gives l.src ≡ g.S.Source.gives l.initial.src;
  tests : Tests (given_size (g.S.Source.gives l.initial.src)) l.ops l.place;
}

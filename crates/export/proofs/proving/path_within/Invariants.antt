use Rattle.std.proofs.Common.{◌≡◌, ◌++◌, map}
use Rattle.std.specs.Arc.{arc_value}
use Rattle.export.proofs.Paths.{ahead}
use Rattle.export.proofs.proving.path_within.Given as goal

abbrev pub invariant-loop-left : goal.invariant-loop-left
invariant-loop-left g l = record {
  same : g.S.Source.gives l.src ≡ g.S.Source.gives l.initial.src;
  path : map arc_value l.nodes.items ++ ahead arc_value (g.S.Source.gives l.initial.src) l.key l.left l.link
      ≡ ahead arc_value (g.S.Source.gives l.initial.src) l.key l.initial.left l.initial.link;
}

abbrev pub decreases-loop-left : goal.decreases-loop-left
decreases-loop-left g l = l.left

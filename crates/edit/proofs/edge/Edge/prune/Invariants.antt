use Rattle.std.proofs.Common.{◌≡◌}
use Rattle.lookups.specs.Steps.{nodes_given}
use Rattle.batch_laws.specs.Links.{pruning}
use Rattle.edit.specs.States.{log_in, IsCounted}
use Rattle.edit.proofs.edge.Edge.prune.Given as goal

abbrev pub invariant-loop-left : goal.invariant-loop-left
invariant-loop-left g l = record {
  same : g.S.Source.gives l.src ≡ g.S.Source.gives l.initial.src;
  is : pruning (nodes_given (g.S.Source.gives l.initial.src)) l.initial.left l.initial.at (log_in l.initial.self)
      ≡ pruning (nodes_given (g.S.Source.gives l.initial.src)) l.left l.at (log_in l.self);
  counted : IsCounted (g.S.Source.reads l.initial.src, l.initial.self.left) (g.S.Source.reads l.src, l.self.left)
      (log_in l.initial.self) (log_in l.self);
}

abbrev pub decreases-loop-left : goal.decreases-loop-left
decreases-loop-left g l = l.left

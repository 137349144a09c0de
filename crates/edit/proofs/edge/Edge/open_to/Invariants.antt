use Rattle.std.proofs.Common.{◌≡◌, ◌-◌, length}
use Rattle.lookups.specs.Steps.{nodes_given}
use Rattle.edit.specs.States.{edge_in, log_in, IsCounted, KeepsWithin}
use Rattle.edit.proofs.edge.Edge.open_to.Given as goal

abbrev pub invariant-loop-self : goal.invariant-loop-self
invariant-loop-self g l = record {
  same : g.S.Source.gives l.src ≡ g.S.Source.gives l.initial.src;
  keeps : KeepsWithin (nodes_given (g.S.Source.gives l.initial.src)) l.count (edge_in l.initial.self)
      (log_in l.initial.self) (edge_in l.self) (log_in l.self);
  counted : IsCounted (g.S.Source.reads l.initial.src, l.initial.self.left) (g.S.Source.reads l.src, l.self.left)
      (log_in l.initial.self) (log_in l.self);
}

abbrev pub decreases-loop-self : goal.decreases-loop-self
decreases-loop-self g l = l.count - length l.self.levels.items

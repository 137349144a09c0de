use Rattle.std.proofs.Common.{◌≡◌, ◌++◌, Ok}
use Rattle.spec.specs.Layer.{layer as layer_of}
use Rattle.lookups.specs.Steps.{nodes_given}
use Rattle.edit.specs.Agenda.{agenda_does, agenda_meets, agenda_size}
use Rattle.edit.specs.Agendas.{agenda_of}
use Rattle.edit.specs.States.{edge_in, log_in, IsCounted}
use Rattle.edit.proofs.edge.Edge.walk.Given as goal

abbrev pub invariant-loop-task : goal.invariant-loop-task
invariant-loop-task g l = record {
  same : g.S.Source.gives l.src ≡ g.S.Source.gives l.initial.src;
  does : agenda_does g.D.Digest.digest_of (nodes_given (g.S.Source.gives l.initial.src)) (layer_of g.D.Digest.digest_of g.row.B)
      l.layers (agenda_of l.initial.agenda.items) (Ok (edge_in l.initial.self, log_in l.initial.self))
      ≡ agenda_does g.D.Digest.digest_of (nodes_given (g.S.Source.gives l.initial.src)) (layer_of g.D.Digest.digest_of g.row.B)
      l.layers (agenda_of l.agenda.items) (Ok (edge_in l.self, log_in l.self));
  meets : l.initial.previous.items ++ agenda_meets (nodes_given (g.S.Source.gives l.initial.src)) (agenda_of l.initial.agenda.items)
      ≡ l.previous.items ++ agenda_meets (nodes_given (g.S.Source.gives l.initial.src)) (agenda_of l.agenda.items);
  counted : IsCounted (g.S.Source.reads l.initial.src, l.initial.self.left) (g.S.Source.reads l.src, l.self.left)
      (log_in l.initial.self) (log_in l.self);
}

abbrev pub decreases-loop-task : goal.decreases-loop-task
decreases-loop-task g l = agenda_size (nodes_given (g.S.Source.gives l.initial.src)) (agenda_of l.agenda.items)

use Rattle.std.proofs.Common.{◌≡◌, ◌++◌, drop}
use Rattle.spec.specs.Layer.{layer as layer_of}
use Rattle.lookups.specs.Steps.{nodes_given}
use Rattle.batch_laws.specs.Batch.{puts}
use Rattle.batch_laws.specs.Walking.{depth_of}
use Rattle.batch_laws.specs.Previous.{no_values}
use Rattle.batch_laws.specs.Links.{pairs_in_turn}
use Rattle.edit.specs.States.{edge_in, log_in, IsCounted}
use Rattle.edit.proofs.edge.Edge.puts.Given as goal

abbrev pub invariant-loop-change : goal.invariant-loop-change
invariant-loop-change g l = record {
  same : g.S.Source.gives l.src ≡ g.S.Source.gives l.initial.src;
  put : pairs_in_turn g.D.Digest.digest_of (nodes_given (g.S.Source.gives l.initial.src))
      (depth_of (layer_of g.D.Digest.digest_of g.row.B) l.layers) (puts l.changes) (edge_in l.initial.self) (log_in l.initial.self)
      ≡ pairs_in_turn g.D.Digest.digest_of (nodes_given (g.S.Source.gives l.initial.src))
      (depth_of (layer_of g.D.Digest.digest_of g.row.B) l.layers) (puts (drop l.change-index l.changes)) (edge_in l.self) (log_in l.self);
  previous : l.previous.items ++ no_values (drop l.change-index l.changes) ≡ l.initial.previous.items ++ no_values l.changes;
  counted : IsCounted (g.S.Source.reads l.initial.src, l.initial.self.left) (g.S.Source.reads l.src, l.self.left)
      (log_in l.initial.self) (log_in l.self);
}

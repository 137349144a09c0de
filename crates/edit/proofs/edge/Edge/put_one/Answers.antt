use Rattle.std.proofs.Common.{◌-◌, Some, sym, ap, ◌∙◌, rules}
use Rattle.spec.specs.Layer.{layer as layer_of}
use Rattle.lookups.specs.Steps.{nodes_given}
use Rattle.rows.specs.Drafts.{pair_of}
use Rattle.batch_laws.specs.Walking.{depth_of}
use Rattle.batch_laws.specs.Counts.{layers_for}
use Rattle.edit.specs.States.{edge_in, log_in}
use Rattle.edit.proofs.Halting.{one-stopped}
use Rattle.edit.proofs.edge.Edge.put_one.Goals as goal

pub returns : goal.returns
returns g c =
    let digest = g.D.Digest.digest_of in
    let gives = g.S.Source.gives c.args.src.now in
    let layer = layer_of digest g.row.B in
    let key = c.args.change.now.0 in
    let value = sym c.value.ensures ∙ c.in-Some.is in
    let high = c.layers.ensures ∙ ap (layers_for layer key) value in
    record {
      done = search rules;
      counted = search rules;
      same = search rules;
      stopped = one-stopped gives digest (nodes_given gives) (depth_of layer c.args.layers)
          (g.S.Source.reads c.args.src.now, c.args.self.now.left) (g.S.Source.reads c.pair.new.src) c.from-depth.result
          (pair_of c.key.result.now c.from.result) key c.args.change.now.1 (edge_in c.args.self.now) (log_in c.args.self.now)
          c.pair.result c.key.ensures (value ∙ ap Some (sym c.from.ensures))
          (c.from-depth.ensures ∙ c.saturating_sub.ensures ∙ ap (λ m. c.args.layers - m) high) c.pair.ensures.stopped;
      halted = search rules;
    }

use Rattle.std.proofs.Common.{◌≡◌, ◌+◌, ◌++◌, [], sym, ap, ◌∙◌, subst, arith, drop, Ok, rules}
use Rattle.std.proofs.lemmas.List.{append-nil}
use Rattle.spec.specs.Layer.{layer as layer_of}
use Rattle.lookups.specs.Steps.{nodes_given}
use Rattle.batch_laws.specs.Batch.{puts, if_put}
use Rattle.batch_laws.specs.Walking.{depth_of}
use Rattle.batch_laws.specs.Previous.{no_values}
use Rattle.batch_laws.specs.Links.{pairs_in_turn}
use Rattle.edit.specs.Budgets.{Budget}
use Rattle.edit.specs.States.{edge_in, log_in}
use Rattle.edit.proofs.Pairing.{counted-then}
use Rattle.edit.proofs.Placing.{cut-here, drop-over}
use Rattle.edit.proofs.Putting.{put-step, none-step}
use Rattle.std.proofs.lemmas.Result.{err_from_is_err_and}
use Rattle.edit.specs.Stops.{IsStopped}
use Rattle.edit.proofs.Halting.{puts-memory, puts-stopped}
use Rattle.edit.specs.Halts.{IsHaltedFrom}
use Rattle.edit.proofs.Halts.{puts-halted}
use Rattle.edit.proofs.edge.Edge.puts.Goals as goal

pub loop-change-preserved : goal.loop-change-preserved
loop-change-preserved g c =
    let digest = g.D.Digest.digest_of in
    let shows = nodes_given (g.S.Source.gives c.args.src.now) in
    let depth = depth_of (layer_of digest g.row.B) c.args.layers in
    let at = c.loop-change in
    let cs = c.args.changes.now in
    let i = at.change-index in
    let x = c.change-item.result in
    let new = c.put_one.new.self in
    let here = cut-here cs i x (omega arith) c.change-item.is in
    record {
      same = c.put_one.ensures.same ∙ at.invariant.same;
      put = put-step digest shows depth
          (pairs_in_turn digest shows depth (puts cs) (edge_in c.args.self.now) (log_in c.args.self.now)) cs i (i + 1) x
          (edge_in at.self) (edge_in new) (log_in at.self) (log_in new) (omega arith) here at.invariant.put
          (subst (λ gives. pairs_in_turn digest (nodes_given gives) depth (if_put x.0 x.1 []) (edge_in at.self) (log_in at.self)
          ≡ Ok (edge_in new, log_in new)) at.invariant.same c.in_ok-put_one.ensures.done);
      previous = none-step (c.args.previous.now.items ++ no_values cs) at.previous.items c.push.new.self.items cs i (i + 1) x
          (omega arith) here at.invariant.previous c.in_ok-push.ensures.items;
      counted = counted-then (g.S.Source.reads c.args.src.now, c.args.self.now.left) (g.S.Source.reads at.src, at.self.left)
          (g.S.Source.reads c.put_one.new.src, c.put_one.new.self.left)
          (log_in c.args.self.now) (log_in at.self) (log_in new) at.invariant.counted c.in_ok-put_one.ensures.counted;
    }

pub returns-clause-step : goal.returns-clause-step
returns-clause-step g c =
    let digest = g.D.Digest.digest_of in
    let shows = nodes_given (g.S.Source.gives c.args.src.now) in
    let depth = depth_of (layer_of digest g.row.B) c.args.layers in
    let at = c.loop-change in
    record {
      done = at.invariant.put
          ∙ ap (λ ds. pairs_in_turn digest shows depth (puts ds) (edge_in at.self) (log_in at.self))
          (drop-over at.change-index c.args.changes.now (omega arith));
      counted = search rules;
      same = search rules;
      stopped = tt;
      halted = tt;
    }

pub returns-clause-previous : goal.returns-clause-previous
returns-clause-previous g c =
    let at = c.loop-change in
    let over = drop-over at.change-index c.args.changes.now (omega arith) in
    sym (append-nil at.previous.items) ∙ sym (ap (λ ds. at.previous.items ++ no_values ds) over) ∙ at.invariant.previous

pub returns-in_err-push-clause-step : goal.returns-in_err-push-clause-step
returns-in_err-push-clause-step g c =
    let p = err_from_is_err_and c.from_residual.result c.from_residual.ensures.1 in
    let digest = g.D.Digest.digest_of in
    let gives = g.S.Source.gives c.args.src.now in
    let shows = nodes_given gives in
    let depth = depth_of (layer_of digest g.row.B) c.args.layers in
    let at = c.loop-change in
    let cs = c.args.changes.now in
    rw (p.1, p.2)
    (record {
      done = tt;
      counted = tt;
      same = search rules;
      stopped = (puts-memory gives digest shows (g.S.Source.reads c.args.src.now, c.args.self.now.left)
          (g.S.Source.reads at.src, at.self.left) depth
          (pairs_in_turn digest shows depth (puts cs) (edge_in c.args.self.now) (log_in c.args.self.now))
          (puts (drop at.change-index cs)) (edge_in at.self) (log_in c.args.self.now) (log_in at.self) at.invariant.put
          at.invariant.counted);
      halted = search rules;
    })

pub returns-in_err-put_one-clause-step : goal.returns-in_err-put_one-clause-step
returns-in_err-put_one-clause-step g c =
    let p = err_from_is_err_and c.from_residual-in_err-put_one.result c.from_residual-in_err-put_one.ensures.1 in
    let digest = g.D.Digest.digest_of in
    let gives = g.S.Source.gives c.args.src.now in
    let shows = nodes_given gives in
    let depth = depth_of (layer_of digest g.row.B) c.args.layers in
    let at = c.loop-change in
    let cs = c.args.changes.now in
    let i = at.change-index in
    let x = c.change-item.result in
    let m : Budget = (g.S.Source.reads at.src, at.self.left) in
    let a = g.S.Source.reads c.put_one.new.src in
    let f = c.in_err-put_one.field-0.0 in
    let old = c.args.self.now in
    let new = c.put_one.new.self in
    rw (p.1, p.2)
    (record {
      done = tt;
      counted = tt;
      same = search rules;
      stopped = (puts-stopped gives digest shows (g.S.Source.reads c.args.src.now, c.args.self.now.left) m a depth
          (pairs_in_turn digest shows depth (puts cs) (edge_in c.args.self.now) (log_in c.args.self.now)) cs i x (edge_in at.self)
          (log_in c.args.self.now) (log_in at.self) f (cut-here cs i x (omega arith) c.change-item.is) at.invariant.put
          at.invariant.counted
          (subst (λ gv. IsStopped gv m a (log_in at.self)
          (pairs_in_turn digest (nodes_given gv) depth (if_put x.0 x.1 []) (edge_in at.self) (log_in at.self)) f) at.invariant.same
          c.in_err-put_one.ensures.stopped));
      halted = (puts-halted digest shows old at.self new depth (pairs_in_turn digest shows depth (puts cs) (edge_in old) (log_in old)) cs i x
          f (cut-here cs i x (omega arith) c.change-item.is) at.invariant.put at.invariant.counted.left
          (subst (λ gv. IsHaltedFrom at.self new
          (pairs_in_turn digest (nodes_given gv) depth (if_put x.0 x.1 []) (edge_in at.self) (log_in at.self)) f) at.invariant.same
          c.in_err-put_one.ensures.halted));
    })

use Rattle.std.proofs.Common.{◌-◌, Some, None, ◌∙◌, subst, arith, rules}
use Rattle.lookups.specs.Steps.{nodes_given}
use Rattle.batch_laws.specs.Links.{pruning}
use Rattle.edit.specs.Budgets.{Budget}
use Rattle.edit.specs.States.{log_in}
use Rattle.edit.specs.Tops.{IsLooked}
use Rattle.edit.proofs.Pairing.{counted-then}
use Rattle.edit.proofs.Topping.{look-ends, look-goes, top-of}
use Rattle.std.proofs.lemmas.Result.{err_from_is_err_and}
use Rattle.batch_laws.specs.Within.{at_top}
use Rattle.edit.specs.Stops.{IsUnread, IsUnshown}
use Rattle.edit.proofs.Stopping.{from-stopped}
use Rattle.edit.proofs.Ending.{prune-stopped, look-stopped}
use Rattle.edit.proofs.Halts.{look-halted}
use Rattle.edit.proofs.edge.Edge.prune.Goals as goal

pub returns-in_default : goal.returns-in_default
returns-in_default g c =
    let at = c.loop-left in
    let shows = nodes_given (g.S.Source.gives c.args.src.now) in
    let now = log_in c.look.new.self in
    let seen : IsLooked (nodes_given (g.S.Source.gives at.src)) at.at (log_in at.self) None now =
    rw c.in_default.is at c.in_ok-next.ensures.shown in
    let looked = subst (λ gives. IsLooked (nodes_given gives) at.at (log_in at.self) None now) at.invariant.same seen in
    record {
      done = top-of (pruning shows c.args.layers c.args.cid (log_in c.args.self.now)) (pruning shows at.left at.at (log_in at.self)) at.at 1
          now at.invariant.is
          (look-ends shows at.left (at.left - 1) at.at (log_in at.self) now (omega (arith, c.loop-left-test.true)) looked);
      counted = search rules;
      same = search rules;
      stopped = tt;
      halted = tt;
    }

pub loop-left-preserved : goal.loop-left-preserved
loop-left-preserved g c =
    let at = c.loop-left in
    let shows = nodes_given (g.S.Source.gives c.args.src.now) in
    let now = log_in c.look.new.self in
    let seen : IsLooked (nodes_given (g.S.Source.gives at.src)) at.at (log_in at.self) (Some c.in-Some.next) now =
    rw c.in-Some.is at c.in_ok-next.ensures.shown in
    let looked = subst (λ gives. IsLooked (nodes_given gives) at.at (log_in at.self) (Some c.in-Some.next) now) at.invariant.same
    seen in
    record {
      same = c.look.ensures.same ∙ at.invariant.same;
      is = at.invariant.is ∙ look-goes shows at.left (at.left - 1) at.at c.in-Some.next (log_in at.self) now
          (omega (arith, c.loop-left-test.true)) looked;
      counted = counted-then (g.S.Source.reads c.args.src.now, c.args.self.now.left) (g.S.Source.reads at.src, at.self.left)
          (g.S.Source.reads c.look.new.src, c.look.new.self.left)
          (log_in c.args.self.now) (log_in at.self) now at.invariant.counted c.in_ok-next.ensures.counted;
    }

pub returns-in_err-next : goal.returns-in_err-next
returns-in_err-next g c =
    let p = err_from_is_err_and c.from_residual.result c.from_residual.ensures.1 in
    let gives = g.S.Source.gives c.args.src.now in
    let shows = nodes_given gives in
    let at = c.loop-left in
    let start = log_in c.args.self.now in
    let b : Budget = (g.S.Source.reads c.args.src.now, c.args.self.now.left) in
    let m : Budget = (g.S.Source.reads at.src, at.self.left) in
    let a = g.S.Source.reads c.look.new.src in
    let f = c.in_err-next.field-0.0 in
    let old = c.args.self.now in
    rw (p.1, p.2)
    (record {
      done = tt;
      counted = tt;
      same = search rules;
      stopped = (prune-stopped gives b a start (pruning shows c.args.layers c.args.cid start) (pruning shows at.left at.at (log_in at.self)) f
          at.invariant.is
          (from-stopped gives b m a start (log_in at.self) (at_top (pruning shows at.left at.at (log_in at.self))) f
          at.invariant.counted
          (look-stopped gives shows m a at.left (at.left - 1) at.at (log_in at.self) f (omega (arith, c.loop-left-test.true))
          (subst (λ gv. IsUnread gv m a at.at (nodes_given gv at.at) f) at.invariant.same c.in_err-next.ensures.unread))));
      halted = (look-halted g.D.Digest.digest_of shows gives old at.self c.look.new.self at.left (at.left - 1) at.at
          (pruning shows c.args.layers c.args.cid (log_in old)) f (omega (arith, c.loop-left-test.true)) at.invariant.is
          at.invariant.counted.left c.in_err-next.ensures.still
          (subst (λ gv. IsUnshown gv at.self.left at.at (nodes_given gv at.at) f) at.invariant.same
          c.in_err-next.ensures.unread.cause));
    })

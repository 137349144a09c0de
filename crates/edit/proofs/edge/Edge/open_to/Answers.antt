use Rattle.std.proofs.Common.{◌∙◌, sym, subst, arith}
use Rattle.lookups.specs.Steps.{nodes_given}
use Rattle.edit.specs.States.{edge_in, log_in, IsOpened}
use Rattle.edit.proofs.Pairing.{counted-then, keeps-opened}
use Rattle.std.proofs.lemmas.Result.{err_from_is_err_and}
use Rattle.batch_laws.specs.Links.{opening, link_edge}
use Rattle.edit.specs.Stops.{IsStopped, open_edge}
use Rattle.edit.proofs.Refusing.{within-stopped}
use Rattle.edit.specs.Edges.{within}
use Rattle.edit.specs.Halts.{most_in, IsHalted}
use Rattle.edit.proofs.Halts.{level-halted, more-halted}
use Rattle.edit.proofs.edge.Edge.open_to.Goals as goal

pub loop-self-preserved : goal.loop-self-preserved
loop-self-preserved g c =
    let at = c.loop-self in
    let new = c.open_level.new.self in
    let start = c.args.self.now in
    record {
      same = c.open_level.ensures.same ∙ at.invariant.same;
      keeps = keeps-opened (nodes_given (g.S.Source.gives c.args.src.now)) c.args.count (edge_in start) (log_in start)
          (log_in at.self) (log_in new) at.self.levels.items new.levels.items at.self.rest new.rest
          (omega (arith, c.loop-self-test.true, c.len.ensures)) at.invariant.keeps
          (subst (λ gives. IsOpened (nodes_given gives) at.self.levels.items at.self.rest (log_in at.self) new.levels.items
          new.rest (log_in new)) at.invariant.same c.in_ok-open_level.ensures.opened);
      counted = counted-then (g.S.Source.reads c.args.src.now, c.args.self.now.left) (g.S.Source.reads at.src, at.self.left)
          (g.S.Source.reads c.open_level.new.src, c.open_level.new.self.left) (log_in start) (log_in at.self) (log_in new)
          at.invariant.counted
          c.in_ok-open_level.ensures.counted;
    }

pub returns-in_err-open_level-clause-stopped : goal.returns-in_err-open_level-clause-stopped
returns-in_err-open_level-clause-stopped g c f onward =
    let p = err_from_is_err_and c.from_residual.result c.from_residual.ensures.1 in
    let gives = g.S.Source.gives c.args.src.now in
    let at = c.loop-self in
    let start = c.args.self.now in
    let fault = c.in_err-open_level.field-0.0 in
    rw (p.1, p.2)
    (within-stopped gives (nodes_given gives) (g.S.Source.reads c.args.src.now, c.args.self.now.left)
    (g.S.Source.reads at.src, at.self.left)
    (g.S.Source.reads c.open_level.new.src) c.args.count f onward (edge_in start) (log_in start) at.self.levels.items at.self.rest
    (log_in at.self) fault (omega (arith, c.loop-self-test.true, c.len.ensures)) (at.invariant.keeps f) at.invariant.counted
    (subst (λ gv. IsStopped gv (g.S.Source.reads at.src, at.self.left) (g.S.Source.reads c.open_level.new.src) (log_in at.self)
    (open_edge (opening (nodes_given gv) (link_edge at.self.rest) (log_in at.self))) fault) at.invariant.same
    c.in_err-open_level.ensures.stopped))

pub returns-in_err-open_level-clause-halted : goal.returns-in_err-open_level-clause-halted
returns-in_err-open_level-clause-halted g c f =
    let p = err_from_is_err_and c.from_residual.result c.from_residual.ensures.1 in
    let shows = nodes_given (g.S.Source.gives c.args.src.now) in
    let at = c.loop-self in
    let start = c.args.self.now in
    let new = c.open_level.new.self in
    let fault = c.in_err-open_level.field-0.0 in
    let step = within shows c.args.count f (edge_in at.self) (log_in at.self) in
    rw (p.1, p.2)
    (more-halted (g.S.Source.reads c.args.src.now, start.left) (g.S.Source.reads at.src, at.self.left) (log_in start)
    (log_in at.self) (edge_in new) (log_in new) (within shows c.args.count f (edge_in start) (log_in start)) fault
    at.invariant.counted
    (subst (λ o. IsHalted (most_in at.self) (edge_in new) (log_in new) o fault) (sym (at.invariant.keeps f))
    (level-halted at.self new shows c.args.count f fault (omega (arith, c.loop-self-test.true, c.len.ensures))
    c.in_err-open_level.ensures.still
    (subst (λ gv. IsHalted (most_in at.self) (link_edge at.self.rest) (log_in at.self)
    (open_edge (opening (nodes_given gv) (link_edge at.self.rest) (log_in at.self))) fault) at.invariant.same
    c.in_err-open_level.ensures.halted))))

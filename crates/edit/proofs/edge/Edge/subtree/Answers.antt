use Rattle.std.proofs.Common.{sym, subst, ◌∙◌, Some, [], rules}
use Rattle.lookups.specs.Steps.{nodes_given}
use Rattle.batch_laws.specs.Links.{parting, subtreeing}
use Rattle.edit.specs.Budgets.{Budget}
use Rattle.edit.specs.States.{edge_in, log_in, IsOnTheWay, shapes_coming}
use Rattle.edit.proofs.Subtrees.{way-begins}
use Rattle.std.proofs.lemmas.Result.{err_from_is_err_and}
use Rattle.edit.specs.Stops.{IsStopped, draft_fault_of}
use Rattle.edit.proofs.Pairing.{counted-then}
use Rattle.edit.proofs.Stopping.{from-stopped}
use Rattle.edit.proofs.Arriving.{subtree-unopened, arrived-stopped}
use Rattle.edit.specs.Halts.{IsHalted, IsHaltedFrom}
use Rattle.edit.proofs.Within.{subtree-within}
use Rattle.edit.proofs.edge.Edge.subtree.Goals as goal

pub returns : goal.returns
returns g c =
    let digest = g.D.Digest.digest_of in
    let shows = nodes_given (g.S.Source.gives c.args.src.now) in
    let old = c.args.self.now in
    let mid = c.open_to.new.self in
    let all = subtreeing digest shows c.args.layers c.args.depth c.args.cid (edge_in old) (log_in old) in
    let way = way-begins digest shows c.args.layers c.args.depth c.args.cid (edge_in old) (log_in old) mid.levels.items mid.rest
    (log_in mid) c.in_ok-open_to.ensures.keeps c.in_ok-open_to.ensures.long in
    let there = subst (λ gv. IsOnTheWay digest (nodes_given gv) all c.args.depth c.args.layers (Some c.args.cid) []
    mid.levels.items mid.rest (log_in mid)) (sym c.open_to.ensures.same) way in
    let counted = counted-then (g.S.Source.reads c.args.src.now, old.left)
    (g.S.Source.reads c.open_to.new.src, mid.left) (g.S.Source.reads c.descend.new.src, c.descend.new.self.left) (log_in old)
    (log_in mid) (log_in c.descend.new.self) c.in_ok-open_to.ensures.counted (c.in_ok-coming.ensures.step all there).counted in
    record {
      done = c.in_ok-join.ensures.joined all (c.in_ok-coming.ensures.step all there).done;
      counted = search (rules, counted, c.join.ensures.reads);
      same = (c.in_ok-coming.ensures.step all there).same ∙ c.open_to.ensures.same;
      stopped = tt;
      halted = tt;
    }

pub returns-in_err-open_to : goal.returns-in_err-open_to
returns-in_err-open_to g c =
    let p = err_from_is_err_and c.from_residual.result c.from_residual.ensures.1 in
    let gives = g.S.Source.gives c.args.src.now in
    let digest = g.D.Digest.digest_of in
    let shows = nodes_given gives in
    let old = c.args.self.now in
    rw (p.1, p.2)
    (record {
      done = tt;
      counted = tt;
      same = c.open_to.ensures.same;
      stopped = (subtree-unopened gives g.D.Digest.digest_of (nodes_given gives) (g.S.Source.reads c.args.src.now, c.args.self.now.left)
          (g.S.Source.reads c.open_to.new.src) c.args.layers c.args.depth c.args.cid (edge_in c.args.self.now) (log_in c.args.self.now)
          c.in_err-open_to.field-0.0 c.in_err-open_to.ensures.stopped);
      halted = (subst (λ o. IsHaltedFrom old c.open_to.new.self o c.in_err-open_to.field-0.0)
          (sym (subtree-within digest shows c.args.layers c.args.depth c.args.cid (edge_in old) (log_in old)))
          (c.in_err-open_to.ensures.halted (parting digest shows c.args.layers (Some c.args.cid))));
    })

pub returns-in_err-coming : goal.returns-in_err-coming
returns-in_err-coming g c =
    let p = err_from_is_err_and c.from_residual-in_err-coming.result c.from_residual-in_err-coming.ensures.1 in
    let digest = g.D.Digest.digest_of in
    let gives = g.S.Source.gives c.args.src.now in
    let shows = nodes_given gives in
    let old = c.args.self.now in
    let mid = c.open_to.new.self in
    let m : Budget = (g.S.Source.reads c.open_to.new.src, c.open_to.new.self.left) in
    let a = g.S.Source.reads c.descend.new.src in
    let f = c.in_err-coming.field-0.0 in
    let all = subtreeing digest shows c.args.layers c.args.depth c.args.cid (edge_in old) (log_in old) in
    let way = way-begins digest shows c.args.layers c.args.depth c.args.cid (edge_in old) (log_in old) mid.levels.items mid.rest
    (log_in mid) c.in_ok-open_to.ensures.keeps c.in_ok-open_to.ensures.long in
    let there = subst (λ gv. IsOnTheWay digest (nodes_given gv) all c.args.depth c.args.layers (Some c.args.cid) []
    mid.levels.items mid.rest (log_in mid)) (sym c.open_to.ensures.same) way in
    let new = c.descend.new.self in
    rw (p.1, p.2)
    (record {
      done = tt;
      counted = tt;
      same = (c.in_err-coming.ensures.step all there).same ∙ c.open_to.ensures.same;
      stopped = (from-stopped gives (g.S.Source.reads c.args.src.now, c.args.self.now.left) m a (log_in old) (log_in mid) all f
          c.in_ok-open_to.ensures.counted
          (subst (λ gv. IsStopped gv m a (log_in mid) all f) c.open_to.ensures.same (c.in_err-coming.ensures.step all there).stopped));
      halted = (subst (λ most. IsHalted most (edge_in new) (log_in new) all f) c.in_ok-open_to.ensures.counted.left
          (c.in_err-coming.ensures.step all there).halted);
    })

pub returns-in_err-join : goal.returns-in_err-join
returns-in_err-join g c =
    let p = err_from_is_err_and c.from_residual-in_err-join.result c.from_residual-in_err-join.ensures.1 in
    let digest = g.D.Digest.digest_of in
    let gives = g.S.Source.gives c.args.src.now in
    let shows = nodes_given gives in
    let old = c.args.self.now in
    let mid = c.open_to.new.self in
    let now = c.descend.new.self in
    let b : Budget = (g.S.Source.reads c.args.src.now, c.args.self.now.left) in
    let m : Budget = (g.S.Source.reads c.open_to.new.src, c.open_to.new.self.left) in
    let a : Budget = (g.S.Source.reads c.descend.new.src, c.descend.new.self.left) in
    let f = c.in_err-join.field-0.0 in
    let all = subtreeing digest shows c.args.layers c.args.depth c.args.cid (edge_in old) (log_in old) in
    let way = way-begins digest shows c.args.layers c.args.depth c.args.cid (edge_in old) (log_in old) mid.levels.items mid.rest
    (log_in mid) c.in_ok-open_to.ensures.keeps c.in_ok-open_to.ensures.long in
    let there = subst (λ gv. IsOnTheWay digest (nodes_given gv) all c.args.depth c.args.layers (Some c.args.cid) []
    mid.levels.items mid.rest (log_in mid)) (sym c.open_to.ensures.same) way in
    let come = c.in_ok-coming.ensures.step all there in
    rw (p.1, p.2)
    (record {
      done = tt;
      counted = tt;
      same = come.same ∙ c.open_to.ensures.same;
      stopped = (from-stopped gives b a a.0 (log_in old) (log_in now) all (draft_fault_of f)
          (counted-then b m a (log_in old) (log_in mid) (log_in now) c.in_ok-open_to.ensures.counted come.counted)
          (arrived-stopped gives digest all a c.args.depth (shapes_coming c.in_ok-coming.coming.items) now.levels.items now.rest
          (log_in now) f come.done (c.in_err-join.ensures.fault all come.done)));
      halted = search rules;
    })

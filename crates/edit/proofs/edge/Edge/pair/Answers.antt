use Rattle.std.proofs.Common.{sym, ap, ◌∙◌, subst, drop, zero, Ok, rules}
use Rattle.lookups.specs.Steps.{nodes_given}
use Rattle.rows.specs.Drafts.{pair_of}
use Rattle.edit.specs.Edges.{edge_of}
use Rattle.edit.specs.States.{edge_in, log_in, IsOpenAt}
use Rattle.edit.proofs.Pairing.{paired}
use Rattle.std.proofs.lemmas.Result.{err_from_is_err_and}
use Rattle.batch_laws.specs.Links.{opening, pairing}
use Rattle.edit.specs.Stops.{IsStopped, open_edge}
use Rattle.edit.proofs.Refusing.{pair-closed, pair-unopened, pair-refused}
use Rattle.edit.specs.Halts.{most_in, IsHalted}
use Rattle.edit.proofs.Within.{pair-within}
use Rattle.edit.proofs.Halts.{pair-halted, more-halted}
use Rattle.edit.proofs.edge.Edge.pair.Goals as goal

pub returns : goal.returns
returns g c =
    let shows = nodes_given (g.S.Source.gives c.args.src.now) in
    let old = c.args.self.now in
    let above = c.open_to.new.self in
    let mid = c.open_at.new.self in
    let new = c.add_pair.new.self in
    record {
      done = paired g.D.Digest.digest_of shows c.args.depth (pair_of c.args.key.now c.args.value) (edge_in old) (log_in old)
          above.levels.items mid.levels.items new.levels.items above.rest mid.rest (log_in above) (log_in mid) (log_in new)
          c.in_ok-open_to.ensures.keeps c.in_ok-open_to.ensures.long
          (subst (λ gives. IsOpenAt (nodes_given gives) c.args.depth above.levels.items above.rest (log_in above) mid.levels.items mid.rest
          (log_in mid)) c.open_to.ensures.same c.in_ok-open_at.ensures.opened)
          c.in_ok-add_pair.ensures.added
          ∙ ap (λ r. Ok (edge_of new.levels.items r, log_in new)) (sym c.in_ok-add_pair.ensures.rest);
      counted = search rules;
      same = search rules;
      stopped = tt;
      halted = tt;
    }

pub returns-in_err-open_to : goal.returns-in_err-open_to
returns-in_err-open_to g c =
    let p = err_from_is_err_and c.from_residual.result c.from_residual.ensures.1 in
    let gives = g.S.Source.gives c.args.src.now in
    let digest = g.D.Digest.digest_of in
    let shows = nodes_given gives in
    let old = c.args.self.now in
    let new = c.open_to.new.self in
    let e = pair_of c.args.key.now c.args.value in
    rw (p.1, p.2)
    (record {
      done = tt;
      counted = tt;
      same = search rules;
      stopped = (pair-closed gives g.D.Digest.digest_of (nodes_given gives) (g.S.Source.reads c.args.src.now, c.args.self.now.left)
          (g.S.Source.reads c.open_to.new.src) c.args.depth (pair_of c.args.key.now c.args.value) (edge_in c.args.self.now)
          (log_in c.args.self.now) c.in_err-open_to.field-0.0 c.in_err-open_to.ensures.stopped);
      halted = (subst (λ o. IsHalted (most_in old) (edge_in new) (log_in new) o c.in_err-open_to.field-0.0)
          (sym (pair-within digest shows c.args.depth e (edge_in old) (log_in old)))
          (c.in_err-open_to.ensures.halted (pairing digest shows zero e)));
    })

pub returns-in_err-open_at : goal.returns-in_err-open_at
returns-in_err-open_at g c =
    let p = err_from_is_err_and c.from_residual-in_err-open_at.result c.from_residual-in_err-open_at.ensures.1 in
    let gives = g.S.Source.gives c.args.src.now in
    let old = c.args.self.now in
    let above = c.open_to.new.self in
    let fault = c.in_err-open_at.field-0.0 in
    let digest = g.D.Digest.digest_of in
    let shows = nodes_given gives in
    let new = c.open_at.new.self in
    let e = pair_of c.args.key.now c.args.value in
    let below = edge_of (drop c.args.depth above.levels.items) above.rest in
    rw (p.1, p.2)
    (record {
      done = tt;
      counted = tt;
      same = search rules;
      stopped = (pair-unopened gives g.D.Digest.digest_of (nodes_given gives) (g.S.Source.reads c.args.src.now, c.args.self.now.left)
          (g.S.Source.reads c.open_to.new.src, c.open_to.new.self.left) (g.S.Source.reads c.open_at.new.src) c.args.depth
          (pair_of c.args.key.now c.args.value) (edge_in old) (log_in old) above.levels.items above.rest (log_in above) fault
          c.in_ok-open_to.ensures.keeps c.in_ok-open_to.ensures.long c.in_ok-open_to.ensures.counted
          (subst (λ gv. IsStopped gv (g.S.Source.reads c.open_to.new.src, c.open_to.new.self.left)
          (g.S.Source.reads c.open_at.new.src) (log_in above)
          (open_edge (opening (nodes_given gv) (edge_of (drop c.args.depth above.levels.items) above.rest) (log_in above))) fault)
          c.open_to.ensures.same c.in_err-open_at.ensures.stopped));
      halted = (more-halted (g.S.Source.reads c.args.src.now, old.left) (g.S.Source.reads c.open_to.new.src, above.left) (log_in old)
          (log_in above) (edge_in new) (log_in new) (pairing digest shows c.args.depth e (edge_in old) (log_in old)) fault
          c.in_ok-open_to.ensures.counted
          (pair-halted above new digest shows c.args.depth e (edge_in old) (log_in old) fault
          c.in_ok-open_to.ensures.keeps c.in_ok-open_to.ensures.long c.in_err-open_at.ensures.still
          (subst (λ gv. IsHalted (most_in above) below (log_in above) (open_edge (opening (nodes_given gv) below (log_in above))) fault)
          c.open_to.ensures.same c.in_err-open_at.ensures.halted)));
    })

pub returns-in_err-add_pair : goal.returns-in_err-add_pair
returns-in_err-add_pair g c =
    let p = err_from_is_err_and c.from_residual-in_err-add_pair.result c.from_residual-in_err-add_pair.ensures.1 in
    let gives = g.S.Source.gives c.args.src.now in
    let old = c.args.self.now in
    let above = c.open_to.new.self in
    let mid = c.open_at.new.self in
    rw (p.1, p.2)
    (record {
      done = tt;
      counted = tt;
      same = search rules;
      stopped = (pair-refused gives g.D.Digest.digest_of (nodes_given gives) (g.S.Source.reads c.args.src.now, c.args.self.now.left)
          (g.S.Source.reads c.open_to.new.src, c.open_to.new.self.left)
          (g.S.Source.reads c.open_at.new.src, c.open_at.new.self.left) c.args.depth
          (pair_of c.args.key.now c.args.value) (edge_in old) (log_in old) above.levels.items mid.levels.items above.rest mid.rest
          (log_in above) (log_in mid) c.in_err-add_pair.field-0.0 c.in_ok-open_to.ensures.keeps c.in_ok-open_to.ensures.long
          c.in_ok-open_to.ensures.counted c.in_ok-open_at.ensures.counted
          (subst (λ gv. IsOpenAt (nodes_given gv) c.args.depth above.levels.items above.rest (log_in above) mid.levels.items mid.rest
          (log_in mid)) c.open_to.ensures.same c.in_ok-open_at.ensures.opened) c.in_err-add_pair.ensures.fault);
      halted = search rules;
    })

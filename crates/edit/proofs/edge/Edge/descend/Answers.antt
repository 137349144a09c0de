use Rattle.std.proofs.Common.{◌+◌, ◌-◌, [], ◌∷◌, ◌++◌, Some, sym, ap, ◌∙◌, subst, arith, length, length-append, suc, drop, take, ◌≡◌, rules}
use Rattle.lookups.specs.Steps.{nodes_given}
use Rattle.edit.specs.Budgets.{Budget}
use Rattle.edit.specs.States.{log_in, shapes_coming, IsOnTheWay, IsWaiting, IsComing}
use Rattle.edit.proofs.Pairing.{counted-then}
use Rattle.edit.proofs.Subtrees.{way-more, way-none, way-waits, coming-count, coming-more}
use Rattle.std.proofs.lemmas.Result.{err_from_is_err_and}
use Rattle.spec.specs.NodeFormat.{first_link}
use Rattle.batch_laws.specs.Links.{parting}
use Rattle.edit.specs.Edges.{edge_of, around}
use Rattle.edit.specs.Stops.{IsStopped}
use Rattle.edit.specs.declared.outcome.Fault.TheVariants.{TooDeep, NoMemory}
use Rattle.edit.proofs.Stopping.{from-stopped}
use Rattle.edit.proofs.Arriving.{way-memory, way-ended, way-stopped}
use Rattle.edit.specs.Halts.{IsHaltedFrom}
use Rattle.edit.proofs.Halts.{way-halted, way-deep}
use Rattle.edit.proofs.edge.Edge.descend.Goals as goal

pub returns-in_default-2-clause-step : goal.returns-in_default-2-clause-step
returns-in_default-2-clause-step g c all w =
    let digest = g.D.Digest.digest_of in
    let shows = nodes_given (g.S.Source.gives c.args.src.now) in
    let at = c.loop-next in
    let old = c.args.self.now in
    let new = c.place.new.self in
    let fs = shapes_coming at.coming.items in
    let d = c.args.depth + c.len.result in
    let n = coming-count at.coming.items in
    let begun = subst (λ ss. IsOnTheWay digest shows all c.args.depth c.args.layers (Some c.args.cid) ss old.levels.items old.rest
    (log_in old)) (sym (ap shapes_coming c.new-coming.ensures.items)) w in
    let way = subst (λ l. IsOnTheWay digest shows all c.args.depth at.left l fs at.self.levels.items at.self.rest (log_in at.self))
    c.in-Some.is (at.invariant.way all begun) in
    let placed : IsWaiting digest (nodes_given (g.S.Source.gives at.src)) d c.in-Some.cid at.self.levels.items at.self.rest
    (log_in at.self) new.levels.items new.rest (log_in new) = rw c.in_default-2.is at c.in_ok-rows.ensures.waits in
    let waiting = subst (λ gives. IsWaiting digest (nodes_given gives) d c.in-Some.cid at.self.levels.items at.self.rest
    (log_in at.self) new.levels.items new.rest (log_in new)) at.invariant.same placed in
    record {
      done = way-waits digest shows all c.args.depth at.left (at.left - 1) d c.in-Some.cid fs at.self.levels.items new.levels.items
          at.self.rest new.rest (log_in at.self) (log_in new) (omega (arith, c.if-left-eq0.false)) (omega (arith, n, c.len.ensures)) way
          waiting;
      counted = search rules;
      same = search rules;
      stopped = tt;
      halted = tt;
    }

pub loop-next-preserved : goal.loop-next-preserved
loop-next-preserved g c =
    let digest = g.D.Digest.digest_of in
    let shows = nodes_given (g.S.Source.gives c.args.src.now) in
    let at = c.loop-next in
    let new = c.place.new.self in
    let fs = shapes_coming at.coming.items in
    let node = c.in-Some-2.rows.rest in
    let d = c.args.depth + c.len.result in
    let n = coming-count at.coming.items in
    let more = ap length c.in_ok-push.ensures.items in
    let one = length-append at.coming.items (c.in-Some-2.rows ∷ []) in
    let placed : IsComing digest (nodes_given (g.S.Source.gives at.src)) d c.in-Some.cid at.self.levels.items at.self.rest
    (log_in at.self) node new.levels.items new.rest (log_in new) = rw c.in-Some-2.is at c.in_ok-rows.ensures.comes in
    let comes = subst (λ gives. IsComing digest (nodes_given gives) d c.in-Some.cid at.self.levels.items at.self.rest
    (log_in at.self) node new.levels.items new.rest (log_in new)) at.invariant.same placed in
    let long = comes.long in
    record {
      same = c.place.ensures.same ∙ at.invariant.same;
      way = λ all w. (let way = subst (λ l. IsOnTheWay digest shows all c.args.depth at.left l fs at.self.levels.items at.self.rest
          (log_in at.self)) c.in-Some.is (at.invariant.way all w) in
          let next = way-more digest shows all c.args.depth at.left (at.left - 1) d c.in-Some.cid fs at.self.levels.items
          new.levels.items at.self.rest new.rest (log_in at.self) (log_in new) node (omega (arith, c.if-left-eq0.false))
          (omega (arith, n, c.len.ensures)) way comes in
          subst (λ ss. IsOnTheWay digest shows all c.args.depth (at.left - 1) c.to_cid-next.result ss new.levels.items new.rest
          (log_in new)) (sym (coming-more c.push.new.self.items at.coming.items c.in-Some-2.rows c.in_ok-push.ensures.items))
          (subst (λ l. IsOnTheWay digest shows all c.args.depth (at.left - 1) l (shapes_coming at.coming.items ++ (node ∷ []))
          new.levels.items new.rest (log_in new)) (sym (c.to_cid-next.ensures ∙ c.link.ensures)) next));
      within = omega (arith, long, more, one, c.len.ensures);
      counted = counted-then (g.S.Source.reads c.args.src.now, c.args.self.now.left) (g.S.Source.reads at.src, at.self.left)
          (g.S.Source.reads c.place.new.src, c.place.new.self.left)
          (log_in c.args.self.now) (log_in at.self) (log_in new) at.invariant.counted c.in_ok-rows.ensures.counted;
    }

pub returns-clause-step : goal.returns-clause-step
returns-clause-step g c all w =
    let digest = g.D.Digest.digest_of in
    let shows = nodes_given (g.S.Source.gives c.args.src.now) in
    let at = c.loop-next in
    let old = c.args.self.now in
    let fs = shapes_coming at.coming.items in
    let begun = subst (λ ss. IsOnTheWay digest shows all c.args.depth c.args.layers (Some c.args.cid) ss old.levels.items old.rest
    (log_in old)) (sym (ap shapes_coming c.new-coming.ensures.items)) w in
    let way = subst (λ l. IsOnTheWay digest shows all c.args.depth at.left l fs at.self.levels.items at.self.rest (log_in at.self))
    c.in_default.is (at.invariant.way all begun) in
    record {
      done = way-none digest shows all c.args.depth at.left fs at.self.levels.items at.self.rest (log_in at.self) way;
      counted = search rules;
      same = search rules;
      stopped = tt;
      halted = tt;
    }

pub returns-in_err-alloc-clause-step : goal.returns-in_err-alloc-clause-step
returns-in_err-alloc-clause-step g c all w =
    let p = err_from_is_err_and c.from_residual.result c.from_residual.ensures.1 in
    let gives = g.S.Source.gives c.args.src.now in
    let old = c.args.self.now in
    rw (p.1, p.2)
    (record {
      done = tt;
      counted = tt;
      same = search rules;
      stopped = (way-memory gives g.D.Digest.digest_of (nodes_given gives) all (g.S.Source.reads c.args.src.now, c.args.self.now.left)
          c.args.depth c.args.layers
          (Some c.args.cid) [] old.levels.items old.rest (log_in old) w);
      halted = search rules;
    })

pub returns-then-left-eq0-clause-step : goal.returns-then-left-eq0-clause-step
returns-then-left-eq0-clause-step g c all w =
    let digest = g.D.Digest.digest_of in
    let gives = g.S.Source.gives c.args.src.now in
    let shows = nodes_given gives in
    let at = c.loop-next in
    let old = c.args.self.now in
    let fs = shapes_coming at.coming.items in
    let begun = subst (λ ss. IsOnTheWay digest shows all c.args.depth c.args.layers (Some c.args.cid) ss old.levels.items old.rest
    (log_in old)) (sym (ap shapes_coming c.new-coming.ensures.items)) w in
    let way = subst (λ l. IsOnTheWay digest shows all c.args.depth at.left l fs at.self.levels.items at.self.rest (log_in at.self))
    c.in-Some.is (at.invariant.way all begun) in
    record {
      done = tt;
      counted = tt;
      same = search rules;
      stopped = from-stopped gives (g.S.Source.reads c.args.src.now, c.args.self.now.left) (g.S.Source.reads at.src, at.self.left)
          (g.S.Source.reads at.src) (log_in old)
          (log_in at.self) all TooDeep at.invariant.counted
          (way-ended gives digest shows all (g.S.Source.reads at.src, at.self.left) c.args.depth at.left c.in-Some.cid fs
          at.self.levels.items
          at.self.rest (log_in at.self) (omega (arith, c.if-left-eq0.true)) way);
      halted = way-deep old at.self digest shows all c.args.depth at.left c.in-Some.cid fs (omega (arith, c.if-left-eq0.true)) way
          at.invariant.counted.left;
    }

pub returns-in_err-rows-clause-step : goal.returns-in_err-rows-clause-step
returns-in_err-rows-clause-step g c all w =
    let p = err_from_is_err_and c.from_residual-in_err-rows.result c.from_residual-in_err-rows.ensures.1 in
    let digest = g.D.Digest.digest_of in
    let gives = g.S.Source.gives c.args.src.now in
    let shows = nodes_given gives in
    let at = c.loop-next in
    let old = c.args.self.now in
    let fs = shapes_coming at.coming.items in
    let d = c.args.depth + c.len.result in
    let n = coming-count at.coming.items in
    let a = g.S.Source.reads c.place.new.src in
    let f = c.in_err-rows.field-0.0 in
    let begun = subst (λ ss. IsOnTheWay digest shows all c.args.depth c.args.layers (Some c.args.cid) ss old.levels.items old.rest
    (log_in old)) (sym (ap shapes_coming c.new-coming.ensures.items)) w in
    let way = subst (λ l. IsOnTheWay digest shows all c.args.depth at.left l fs at.self.levels.items at.self.rest (log_in at.self))
    c.in-Some.is (at.invariant.way all begun) in
    let below = edge_of (drop d at.self.levels.items) at.self.rest in
    let one : suc (at.left - 1) ≡ at.left = omega (arith, c.if-left-eq0.false) in
    let new = c.place.new.self in
    rw (p.1, p.2)
    (record {
      done = tt;
      counted = tt;
      same = search rules;
      stopped = (let m : Budget = (g.S.Source.reads at.src, at.self.left) in
          let placed = subst (λ gv. IsStopped gv m a (log_in at.self)
          (parting digest (nodes_given gv) (suc (at.left - 1)) (Some c.in-Some.cid) below (log_in at.self)) f) at.invariant.same
          (c.in_err-rows.ensures.stopped (at.left - 1)) in
          (from-stopped gives (g.S.Source.reads c.args.src.now, c.args.self.now.left) m a (log_in old) (log_in at.self) all f
          at.invariant.counted
          (way-stopped gives digest shows all m a c.args.depth at.left d (Some c.in-Some.cid) fs at.self.levels.items at.self.rest
          (log_in at.self) f (omega (arith, n, c.len.ensures)) way
          (subst (λ j. IsStopped gives m a (log_in at.self) (parting digest shows j (Some c.in-Some.cid) below (log_in at.self)) f) one
          placed))));
      halted = (let m = at.left - 1 in
          let placed = subst (λ gv. IsHaltedFrom at.self new (around digest c.args.depth (take d at.self.levels.items) fs
          (parting digest (nodes_given gv) (suc m) (Some c.in-Some.cid) below (log_in at.self))) f) at.invariant.same
          (c.in_err-rows.ensures.halted m c.args.depth fs) in
          (way-halted old at.self new digest shows all c.args.depth at.left m d c.in-Some.cid fs f
          (omega (arith, c.if-left-eq0.false)) (omega (arith, n, c.len.ensures)) way at.invariant.counted.left placed));
    })

pub returns-in_err-push-clause-step : goal.returns-in_err-push-clause-step
returns-in_err-push-clause-step g c all w =
    let p = err_from_is_err_and c.from_residual-in_err-push.result c.from_residual-in_err-push.ensures.1 in
    let digest = g.D.Digest.digest_of in
    let gives = g.S.Source.gives c.args.src.now in
    let shows = nodes_given gives in
    let at = c.loop-next in
    let old = c.args.self.now in
    let new = c.place.new.self in
    let fs = shapes_coming at.coming.items in
    let node = c.in-Some-2.rows.rest in
    let d = c.args.depth + c.len.result in
    let n = coming-count at.coming.items in
    let m : Budget = (g.S.Source.reads at.src, at.self.left) in
    let a : Budget = (g.S.Source.reads c.place.new.src, c.place.new.self.left) in
    let begun = subst (λ ss. IsOnTheWay digest shows all c.args.depth c.args.layers (Some c.args.cid) ss old.levels.items old.rest
    (log_in old)) (sym (ap shapes_coming c.new-coming.ensures.items)) w in
    let way = subst (λ l. IsOnTheWay digest shows all c.args.depth at.left l fs at.self.levels.items at.self.rest (log_in at.self))
    c.in-Some.is (at.invariant.way all begun) in
    let placed : IsComing digest (nodes_given (g.S.Source.gives at.src)) d c.in-Some.cid at.self.levels.items at.self.rest
    (log_in at.self) node new.levels.items new.rest (log_in new) = rw c.in-Some-2.is at c.in_ok-rows.ensures.comes in
    let comes = subst (λ gv. IsComing digest (nodes_given gv) d c.in-Some.cid at.self.levels.items at.self.rest
    (log_in at.self) node new.levels.items new.rest (log_in new)) at.invariant.same placed in
    let next = way-more digest shows all c.args.depth at.left (at.left - 1) d c.in-Some.cid fs at.self.levels.items
    new.levels.items at.self.rest new.rest (log_in at.self) (log_in new) node (omega (arith, c.if-left-eq0.false))
    (omega (arith, n, c.len.ensures)) way comes in
    rw (p.1, p.2)
    (record {
      done = tt;
      counted = tt;
      same = search rules;
      stopped = (from-stopped gives (g.S.Source.reads c.args.src.now, c.args.self.now.left) a a.0 (log_in old) (log_in new) all NoMemory
          (counted-then (g.S.Source.reads c.args.src.now, c.args.self.now.left) m a (log_in old) (log_in at.self) (log_in new)
          at.invariant.counted
          c.in_ok-rows.ensures.counted)
          (way-memory gives digest shows all a c.args.depth (at.left - 1) (first_link node) (fs ++ (node ∷ [])) new.levels.items
          new.rest (log_in new) next));
      halted = search rules;
    })

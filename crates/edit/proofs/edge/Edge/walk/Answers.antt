use Rattle.std.proofs.Common.{◌≡◌, ◌++◌, refl, ap, ◌∙◌, subst, arith, Ok, rules}
use Rattle.spec.specs.Layer.{layer as layer_of}
use Rattle.lookups.specs.Steps.{nodes_given}
use Rattle.edit.specs.Budgets.{Budget}
use Rattle.edit.specs.Agenda.{IsDone, agenda_does, agenda_meets, node_does, task_does}
use Rattle.edit.specs.Agendas.{agenda_of, task_of}
use Rattle.edit.specs.States.{edge_in, log_in}
use Rattle.batch_laws.specs.Links.{Log}
use Rattle.edit.proofs.Pairing.{counted-then, counted-from}
use Rattle.edit.proofs.Tasking.{agenda-more, agenda-none}
use Rattle.edit.proofs.Walking.{walk-more, walk-meets, walk-smaller, walked-all, met-all}
use Rattle.std.proofs.lemmas.Result.{err_from_is_err_and}
use Rattle.edit.specs.Stops.{IsStopped}
use Rattle.edit.proofs.Halting.{node-memory, node-refused, walk-begun, task-stopped}
use Rattle.edit.specs.Halts.{IsHaltedFrom}
use Rattle.edit.proofs.Halts.{task-halted}
use Rattle.edit.proofs.edge.Edge.walk.Goals as goal

pub loop-task-preserved : goal.loop-task-preserved
loop-task-preserved g c =
    let digest = g.D.Digest.digest_of in
    let shows = nodes_given (g.S.Source.gives c.args.src.now) in
    let layer = layer_of digest g.row.B in
    let n = c.args.layers in
    let at = c.loop-task in
    let mid = c.go_on.new.self in
    let new = c.perform.new.self in
    let start = agenda_of c.go_on.new.agenda.items in
    let fs = agenda_of at.agenda.items in
    let gs = agenda_of c.pop.new.self.items in
    let next = agenda_of c.perform.new.agenda.items in
    let f = task_of c.in-Some.task in
    let values = c.perform.new.previous.items in
    let e = agenda-more at.agenda.items c.pop.new.self.items c.in-Some.task c.in-Some.ensures.items in
    let w = subst (λ gives. IsDone digest (nodes_given gives) layer n f gs (edge_in at.self) (log_in at.self) at.previous.items
    next (edge_in new) (log_in new) values) at.invariant.same c.in_ok-perform.ensures.done in
    record {
      same = c.perform.ensures.same ∙ at.invariant.same;
      does = walk-more digest shows layer n (agenda_does digest shows layer n start (Ok (edge_in mid, log_in mid))) fs gs next f
          (edge_in at.self) (edge_in new) (log_in at.self) (log_in new) at.previous.items values at.invariant.does e w;
      meets = walk-meets digest shows layer n (c.new-previous.result.items ++ agenda_meets shows start) fs gs next f
          (edge_in at.self) (edge_in new) (log_in at.self) (log_in new) at.previous.items values at.invariant.meets e w;
      counted = counted-then (g.S.Source.reads c.args.src.now, mid.left) (g.S.Source.reads at.src, at.self.left)
          (g.S.Source.reads c.perform.new.src, c.perform.new.self.left)
          (log_in mid) (log_in at.self) (log_in new) at.invariant.counted c.in_ok-perform.ensures.counted;
    }

pub loop-task-smaller : goal.loop-task-smaller
loop-task-smaller g c =
    let digest = g.D.Digest.digest_of in
    let shows = nodes_given (g.S.Source.gives c.args.src.now) in
    let layer = layer_of digest g.row.B in
    let at = c.loop-task in
    let new = c.perform.new.self in
    let gs = agenda_of c.pop.new.self.items in
    let next = agenda_of c.perform.new.agenda.items in
    let f = task_of c.in-Some.task in
    let values = c.perform.new.previous.items in
    walk-smaller digest shows layer c.args.layers (agenda_of at.agenda.items) gs next f (edge_in at.self) (edge_in new)
    (log_in at.self) (log_in new) at.previous.items values
    (agenda-more at.agenda.items c.pop.new.self.items c.in-Some.task c.in-Some.ensures.items)
    (subst (λ gives. IsDone digest (nodes_given gives) layer c.args.layers f gs (edge_in at.self) (log_in at.self) at.previous.items
    next (edge_in new) (log_in new) values) at.invariant.same c.in_ok-perform.ensures.done)

pub returns-clause-step : goal.returns-clause-step
returns-clause-step g c =
    let digest = g.D.Digest.digest_of in
    let shows = nodes_given (g.S.Source.gives c.args.src.now) in
    let layer = layer_of digest g.row.B in
    let at = c.loop-task in
    let old = c.args.self.now in
    let mid = c.go_on.new.self in
    let start = agenda_of c.go_on.new.agenda.items in
    let last = agenda_of at.agenda.items in
    let n = c.in_default.ensures.cases in
    record {
      done = walked-all digest shows layer c.args.layers c.args.layer c.args.depth c.args.changes.now c.args.rows.rest
          (agenda_of c.new-agenda.result.items) start last (edge_in old) (edge_in mid)
          (edge_in at.self) (log_in old) (log_in at.self) c.in_ok-go_on.ensures.passed (ap agenda_of c.new-agenda.ensures.items)
          (subst (λ (l : Log). agenda_does digest shows layer c.args.layers start (Ok (edge_in mid, l))
          ≡ agenda_does digest shows layer c.args.layers last (Ok (edge_in at.self, log_in at.self)))
          c.go_on.ensures.log at.invariant.does) (agenda-none at.agenda.items (omega (arith, n.0)));
      counted = search rules;
      same = search rules;
      stopped = tt;
      halted = tt;
    }

pub returns-clause-previous : goal.returns-clause-previous
returns-clause-previous g c =
    let shows = nodes_given (g.S.Source.gives c.args.src.now) in
    let at = c.loop-task in
    let n = c.in_default.ensures.cases in
    met-all shows c.args.layer c.args.depth c.args.changes.now c.args.rows.rest (agenda_of c.new-agenda.result.items)
    (agenda_of c.go_on.new.agenda.items) (agenda_of at.agenda.items) (edge_in c.args.self.now) (edge_in c.go_on.new.self)
    c.new-previous.result.items at.previous.items
    c.in_ok-go_on.ensures.passed (ap agenda_of c.new-agenda.ensures.items) c.new-previous.ensures.items at.invariant.meets
    (agenda-none at.agenda.items (omega (arith, n.0)))

pub returns-in_err-alloc-clause-step : goal.returns-in_err-alloc-clause-step
returns-in_err-alloc-clause-step g c =
    let p = err_from_is_err_and c.from_residual.result c.from_residual.ensures.1 in
    let digest = g.D.Digest.digest_of in
    let gives = g.S.Source.gives c.args.src.now in
    let shows = nodes_given gives in
    let layer = layer_of digest g.row.B in
    let n = c.args.layers in
    let old = c.args.self.now in
    rw (p.1, p.2)
    (record {
      done = tt;
      counted = tt;
      same = search rules;
      stopped = (node-memory gives digest shows layer n (g.S.Source.reads c.args.src.now, c.args.self.now.left) c.args.layer c.args.depth
          c.args.changes.now
          c.args.rows.rest (edge_in old) (log_in old));
      halted = search rules;
    })

pub returns-in_err-alloc-2-clause-step : goal.returns-in_err-alloc-2-clause-step
returns-in_err-alloc-2-clause-step g c =
    let p = err_from_is_err_and c.from_residual-in_err-alloc-2.result c.from_residual-in_err-alloc-2.ensures.1 in
    let digest = g.D.Digest.digest_of in
    let gives = g.S.Source.gives c.args.src.now in
    let shows = nodes_given gives in
    let layer = layer_of digest g.row.B in
    let n = c.args.layers in
    let old = c.args.self.now in
    rw (p.1, p.2)
    (record {
      done = tt;
      counted = tt;
      same = search rules;
      stopped = (node-memory gives digest shows layer n (g.S.Source.reads c.args.src.now, c.args.self.now.left) c.args.layer c.args.depth
          c.args.changes.now
          c.args.rows.rest (edge_in old) (log_in old));
      halted = search rules;
    })

pub returns-in_err-go_on-clause-step : goal.returns-in_err-go_on-clause-step
returns-in_err-go_on-clause-step g c =
    let p = err_from_is_err_and c.from_residual-in_err-go_on.result c.from_residual-in_err-go_on.ensures.1 in
    let digest = g.D.Digest.digest_of in
    let gives = g.S.Source.gives c.args.src.now in
    let shows = nodes_given gives in
    let layer = layer_of digest g.row.B in
    let n = c.args.layers in
    let old = c.args.self.now in
    rw (p.1, p.2)
    (record {
      done = tt;
      counted = tt;
      same = search rules;
      stopped = (node-refused gives digest shows layer n (g.S.Source.reads c.args.src.now, c.args.self.now.left) c.args.layer c.args.depth
          c.args.changes.now c.args.rows.rest (edge_in old) (log_in old) c.in_err-go_on.field-0.0
          (c.in_err-go_on.ensures.fault digest shows layer n));
      halted = search rules;
    })

pub returns-in_err-perform-clause-step : goal.returns-in_err-perform-clause-step
returns-in_err-perform-clause-step g c =
    let p = err_from_is_err_and c.from_residual-in_err-perform.result c.from_residual-in_err-perform.ensures.1 in
    let digest = g.D.Digest.digest_of in
    let gives = g.S.Source.gives c.args.src.now in
    let shows = nodes_given gives in
    let layer = layer_of digest g.row.B in
    let n = c.args.layers in
    let old = c.args.self.now in
    let mid = c.go_on.new.self in
    let at = c.loop-task in
    let b : Budget = (g.S.Source.reads c.args.src.now, old.left) in
    let m : Budget = (g.S.Source.reads at.src, at.self.left) in
    let a = g.S.Source.reads c.perform.new.src in
    let start = agenda_of c.go_on.new.agenda.items in
    let gs = agenda_of c.pop.new.self.items in
    let f = task_of c.in-Some.task in
    let fault = c.in_err-perform.field-0.0 in
    let all = agenda_does digest shows layer n start (Ok (edge_in mid, log_in old)) in
    let does = subst (λ (l : Log). agenda_does digest shows layer n start (Ok (edge_in mid, l))
    ≡ agenda_does digest shows layer n (agenda_of at.agenda.items) (Ok (edge_in at.self, log_in at.self)))
    c.go_on.ensures.log at.invariant.does in
    let new = c.perform.new.self in
    let counted = counted-from b (g.S.Source.reads c.args.src.now, mid.left) m (log_in old) (log_in mid) (log_in at.self)
    c.go_on.ensures.log c.go_on.ensures.budget refl at.invariant.counted in
    rw (p.1, p.2)
    (record {
      done = tt;
      counted = tt;
      same = search rules;
      stopped = (task-stopped gives digest shows layer n b m a
          (node_does digest shows layer n c.args.layer c.args.depth c.args.changes.now c.args.rows.rest (edge_in old) (log_in old))
          all (agenda_of at.agenda.items) gs f (edge_in at.self) (log_in old) (log_in at.self) fault
          (walk-begun gives digest shows layer n c.args.layer c.args.depth c.args.changes.now c.args.rows.rest
          (agenda_of c.new-agenda.result.items) start (edge_in old) (edge_in mid) (log_in old) c.in_ok-go_on.ensures.passed
          (ap agenda_of c.new-agenda.ensures.items)) does
          (agenda-more at.agenda.items c.pop.new.self.items c.in-Some.task c.in-Some.ensures.items)
          (counted-from b (g.S.Source.reads c.args.src.now, mid.left) m (log_in old) (log_in mid) (log_in at.self)
          c.go_on.ensures.log c.go_on.ensures.budget refl at.invariant.counted)
          (subst (λ gv. IsStopped gv m a (log_in at.self)
          (task_does digest (nodes_given gv) layer n f (edge_in at.self) (log_in at.self)) fault) at.invariant.same
          c.in_err-perform.ensures.stopped));
      halted = (task-halted digest shows old at.self new layer n
          (node_does digest shows layer n c.args.layer c.args.depth c.args.changes.now c.args.rows.rest (edge_in old) (log_in old))
          all (agenda_of at.agenda.items) gs f fault
          (walk-begun gives digest shows layer n c.args.layer c.args.depth c.args.changes.now c.args.rows.rest
          (agenda_of c.new-agenda.result.items) start (edge_in old) (edge_in mid) (log_in old) c.in_ok-go_on.ensures.passed
          (ap agenda_of c.new-agenda.ensures.items)) does
          (agenda-more at.agenda.items c.pop.new.self.items c.in-Some.task c.in-Some.ensures.items) counted.left
          (subst (λ gv. IsHaltedFrom at.self new (task_does digest (nodes_given gv) layer n f (edge_in at.self) (log_in at.self)) fault)
          at.invariant.same c.in_err-perform.ensures.halted));
    })

use Rattle.std.proofs.lemmas.Result.{err_from_is_err_and}
use Rattle.std.proofs.Common.{◌≡◌, ◌++◌, sym, ap, ◌∙◌, subst, Ok, rules}
use Rattle.cid.specs.CidRef.{bytes_of}
use Rattle.spec.specs.Tree.{Pair}
use Rattle.spec.specs.Layer.{layer as layer_of}
use Rattle.lookups.specs.Steps.{nodes_given}
use Rattle.batch_laws.specs.Batch.{entry}
use Rattle.batch_laws.specs.Previous.{value_met}
use Rattle.batch_laws.specs.Links.{Log, pairs_in_turn}
use Rattle.edit.specs.Budgets.{Budget}
use Rattle.edit.specs.Agenda.{IsDone, task_does}
use Rattle.edit.specs.Agendas.{later_of, task_of, agenda_of}
use Rattle.edit.specs.States.{edge_in, log_in}
use Rattle.edit.specs.Stops.{IsStopped, draft_fault_of}
use Rattle.edit.proofs.Walking.{done-pair}
use Rattle.edit.proofs.Halting.{entry-stopped, entry-refused}
use Rattle.edit.specs.Halts.{IsHaltedFrom}
use Rattle.edit.proofs.Halts.{entry-halted}
use Rattle.edit.proofs.edge.Edge.perform.Goals as goal

pub returns-in_err-entry-in-Pair : goal.returns-in_err-entry-in-Pair
returns-in_err-entry-in-Pair g c =
    let p = err_from_is_err_and c.from_residual-in_err-entry-in-Pair.result c.from_residual-in_err-entry-in-Pair.ensures.1 in
    let digest = g.D.Digest.digest_of in
    let gives = g.S.Source.gives c.args.src.now in
    let shows = nodes_given gives in
    let layer = layer_of digest g.row.B in
    let n = c.args.layers in
    let old = c.args.self.now in
    let b : Budget = (g.S.Source.reads c.args.src.now, c.args.self.now.left) in
    let a = g.S.Source.reads c.entry.new.src in
    let f = later_of c.in-Pair.next in
    let given : Pair = (c.key.result.now, bytes_of c.from.result) in
    let same : given ≡ f.pair = ap (λ k. (k, bytes_of c.from.result)) c.key.ensures
    ∙ ap (λ v. (c.in-Pair.next.rest.before, v)) c.from.ensures in
    let fault = c.in_err-entry-in-Pair.field-0.0 in
    let new = c.entry.new.self in
    rw (p.1, p.2)
    (record {
      done = tt;
      counted = tt;
      same = search rules;
      stopped = (subst (λ t. IsStopped gives b a (log_in old) (task_does digest shows layer n t (edge_in old) (log_in old)) fault)
          (sym (ap task_of c.in-Pair.is))
          (entry-stopped gives digest shows layer n b a f (edge_in old) (log_in old) fault
          (subst (λ e. IsStopped gives b a (log_in old)
          (pairs_in_turn digest shows (λ key. f.depth) (entry f.at e) (edge_in old) (log_in old)) fault) same
          c.in_err-entry-in-Pair.ensures.step.stopped)));
      halted = (subst (λ t. IsHaltedFrom old new (task_does digest shows layer n t (edge_in old) (log_in old)) fault)
          (sym (ap task_of c.in-Pair.is))
          (entry-halted digest shows old new layer n f fault
          (subst (λ e. IsHaltedFrom old new
          (pairs_in_turn digest shows (λ key. f.depth) (entry f.at e) (edge_in old) (log_in old)) fault) same
          c.in_err-entry-in-Pair.ensures.step.halted)));
    })

pub returns-in_err-go_on-in-Pair : goal.returns-in_err-go_on-in-Pair
returns-in_err-go_on-in-Pair g c =
    let p = err_from_is_err_and c.from_residual-in_err-go_on-in-Pair.result c.from_residual-in_err-go_on-in-Pair.ensures.1 in
    let digest = g.D.Digest.digest_of in
    let gives = g.S.Source.gives c.args.src.now in
    let shows = nodes_given gives in
    let layer = layer_of digest g.row.B in
    let n = c.args.layers in
    let old = c.args.self.now in
    let b : Budget = (g.S.Source.reads c.args.src.now, c.args.self.now.left) in
    let a : Budget = (g.S.Source.reads c.entry.new.src, c.entry.new.self.left) in
    let f = later_of c.in-Pair.next in
    let given : Pair = (c.key.result.now, bytes_of c.from.result) in
    let same : given ≡ f.pair = ap (λ k. (k, bytes_of c.from.result)) c.key.ensures
    ∙ ap (λ v. (c.in-Pair.next.rest.before, v)) c.from.ensures in
    let new = c.entry.new.self in
    let fault = c.in_err-go_on-in-Pair.field-0.0 in
    rw (p.1, p.2)
    (record {
      done = tt;
      counted = tt;
      same = search rules;
      stopped = (subst (λ t. IsStopped gives b a.0 (log_in old) (task_does digest shows layer n t (edge_in old) (log_in old))
          (draft_fault_of fault)) (sym (ap task_of c.in-Pair.is))
          (entry-refused gives digest shows layer n b a f (edge_in old) (edge_in new) (log_in old) (log_in new) fault
          (subst (λ e. pairs_in_turn digest shows (λ key. f.depth) (entry f.at e) (edge_in old) (log_in old)
          ≡ Ok (edge_in new, log_in new)) same c.in_ok-entry-in-Pair.ensures.step.done)
          c.in_ok-entry-in-Pair.ensures.step.counted (c.in_err-go_on-in-Pair.ensures.fault digest shows layer n)));
      halted = search rules;
    })

pub returns-in_ok-go_on-in-Pair : goal.returns-in_ok-go_on-in-Pair
returns-in_ok-go_on-in-Pair g c =
    let digest = g.D.Digest.digest_of in
    let gives = g.S.Source.gives c.args.src.now in
    let shows = nodes_given gives in
    let layer = layer_of digest g.row.B in
    let n = c.args.layers in
    let old = c.args.self.now in
    let f = later_of c.in-Pair.next in
    let given : Pair = (c.key.result.now, bytes_of c.from.result) in
    let same : given ≡ f.pair = ap (λ k. (k, bytes_of c.from.result)) c.key.ensures
    ∙ ap (λ v. (c.in-Pair.next.rest.before, v)) c.from.ensures in
    let mid = c.entry.new.self in
    let new = c.go_on.new.self in
    let fs = agenda_of c.args.agenda.now.items in
    let gs = agenda_of c.go_on.new.agenda.items in
    let values = c.args.previous.now.items in
    let more = c.entry.new.previous.items in
    record {
      done = subst (λ (l : Log). IsDone digest shows layer n (task_of c.args.task) fs (edge_in old) (log_in old) values gs (edge_in new) l more)
          (sym c.go_on.ensures.log)
          (subst (λ t. IsDone digest shows layer n t fs (edge_in old) (log_in old) values gs (edge_in new) (log_in mid) more)
          (sym (ap task_of c.in-Pair.is))
          (done-pair digest shows layer n fs gs f (edge_in old) (edge_in mid) (edge_in new) (log_in old) (log_in mid) values more
          (subst (λ e. pairs_in_turn digest shows (λ key. f.depth) (entry f.at e) (edge_in old) (log_in old)
          ≡ Ok (edge_in mid, log_in mid)) same c.in_ok-entry-in-Pair.ensures.step.done)
          (subst (λ e. more ≡ values ++ value_met f.at e) same c.in_ok-entry-in-Pair.ensures.previous)
          c.in_ok-go_on-in-Pair.ensures.passed));
      counted = search rules;
      same = search rules;
      stopped = tt;
      halted = tt;
    }

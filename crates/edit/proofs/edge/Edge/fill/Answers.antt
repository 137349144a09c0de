use Rattle.std.proofs.Common.{◌≡◌, ◌<◌, ◌-◌, refl, sym, ap, ◌∙◌, subst, arith, length, suc, rules}
use Rattle.spec.specs.Layer.{layer as layer_of}
use Rattle.lookups.specs.Steps.{nodes_given}
use Rattle.batch_laws.specs.Links.{Log, subtreeing}
use Rattle.edit.specs.Budgets.{Budget}
use Rattle.edit.specs.Edges.{edge_of}
use Rattle.edit.specs.Agenda.{ToGap, IsGoneOn, IsDone, node_does}
use Rattle.edit.specs.Agendas.{agenda_of, gap_of}
use Rattle.edit.specs.States.{edge_in, log_in}
use Rattle.edit.proofs.Walking.{done-none, done-subtree, done-node}
use Rattle.edit.proofs.Placing.{none-left}
use Rattle.std.proofs.lemmas.Result.{err_from_is_err_and}
use Rattle.edit.specs.Stops.{IsStopped, IsRefused}
use Rattle.edit.proofs.Halting.{gap-none, gap-subtree, gap-unread, gap-refused}
use Rattle.edit.specs.Halts.{IsHaltedFrom}
use Rattle.edit.proofs.Halts.{gap-none-halted, gap-subtree-halted, gap-unread-halted}
use Rattle.edit.proofs.edge.Edge.fill.Goals as goal

pub returns-in_default : goal.returns-in_default
returns-in_default g c =
    let digest = g.D.Digest.digest_of in
    let shows = nodes_given (g.S.Source.gives c.args.src.now) in
    let old = c.args.self.now in
    let new = c.puts.new.self in
    record {
      done = done-none digest shows (layer_of digest g.row.B) c.args.layers (agenda_of c.args.agenda.now.items) (gap_of c.args.gap)
          (edge_in old) (edge_in new) (log_in old) (log_in new) c.args.previous.now.items c.puts.new.previous.items c.in_default.is
          c.in_ok-puts.ensures.step.done c.in_ok-puts.ensures.previous;
      counted = search rules;
      same = search rules;
      stopped = tt;
      halted = tt;
    }

pub returns-then-count-eq0 : goal.returns-then-count-eq0
returns-then-count-eq0 g c =
    let digest = g.D.Digest.digest_of in
    let shows = nodes_given (g.S.Source.gives c.args.src.now) in
    let old = c.args.self.now in
    let new = c.subtree.new.self in
    let gap = gap_of c.args.gap in
    let none : length c.args.gap.changes.now ≡ 0 = omega (arith, c.if-count-eq0.true) in
    record {
      done = done-subtree digest shows (layer_of digest g.row.B) c.args.layers (agenda_of c.args.agenda.now.items) gap c.in-Some.cid
          (edge_in old) (edge_in new) (log_in old) (log_in new) c.args.previous.now.items c.args.previous.now.items c.in-Some.is
          (none-left c.args.gap.changes.now none) (omega (arith, c.if-gap-eq0.false))
          (ap (λ d. subtreeing digest shows c.args.gap.layer d c.in-Some.cid (edge_in old) (log_in old)) (sym c.from.ensures)
          ∙ c.in_ok-subtree.ensures.done) refl;
      counted = search rules;
      same = search rules;
      stopped = tt;
      halted = tt;
    }

pub returns : goal.returns
returns g c =
    let digest = g.D.Digest.digest_of in
    let shows = nodes_given (g.S.Source.gives c.args.src.now) in
    let layer = layer_of digest g.row.B in
    let old = c.args.self.now in
    let mid = c.rows.new.self in
    let new = c.go_on.new.self in
    let fs = agenda_of c.args.agenda.now.items in
    let gs = agenda_of c.go_on.new.agenda.items in
    let gap = gap_of c.args.gap in
    let node = c.in_ok-rows.rows.rest in
    let values = c.args.previous.now.items in
    let some : 0 < length c.args.gap.changes.now = omega (arith, c.if-count-eq0.false) in
    let same : edge_in mid ≡ edge_in old = ap (λ ls. edge_of ls mid.rest) c.rows.ensures.levels
    ∙ ap (edge_of old.levels.items) c.rows.ensures.rest in
    let gone = subst (λ t. IsGoneOn (c.args.gap.layer - 1) c.args.gap.depth c.args.gap.changes.now node fs gs t (edge_in new))
    same c.in_ok-go_on.ensures.passed in
    record {
      done = subst (λ (l : Log). IsDone digest shows layer c.args.layers (ToGap gap) fs (edge_in old) (log_in old) values gs
          (edge_in new) l values) (sym c.go_on.ensures.log)
          (done-node digest shows layer c.args.layers fs gs gap c.in-Some.cid (c.args.gap.layer - 1)
          node (edge_in old) (edge_in new) (log_in old) (log_in mid) values values c.in-Some.is some
          (omega (arith, c.if-gap-eq0.false)) c.in_ok-rows.ensures.shown gone refl);
      counted = search rules;
      same = search rules;
      stopped = tt;
      halted = tt;
    }

pub returns-in_err-puts : goal.returns-in_err-puts
returns-in_err-puts g c =
    let p = err_from_is_err_and c.from_residual.result c.from_residual.ensures.1 in
    let digest = g.D.Digest.digest_of in
    let gives = g.S.Source.gives c.args.src.now in
    rw (p.1, p.2)
    (record {
      done = tt;
      counted = tt;
      same = search rules;
      stopped = (gap-none gives digest (nodes_given gives) (layer_of digest g.row.B) c.args.layers
          (g.S.Source.reads c.args.src.now, c.args.self.now.left)
          (g.S.Source.reads c.puts.new.src) (gap_of c.args.gap) (edge_in c.args.self.now) (log_in c.args.self.now)
          c.in_err-puts.field-0.0 c.in_default.is c.in_err-puts.ensures.step.stopped);
      halted = (gap-none-halted digest (nodes_given (g.S.Source.gives c.args.src.now)) c.args.self.now c.puts.new.self
          (layer_of digest g.row.B) c.args.layers (gap_of c.args.gap) c.in_err-puts.field-0.0 c.in_default.is
          c.in_err-puts.ensures.step.halted);
    })

pub returns-in_err-subtree : goal.returns-in_err-subtree
returns-in_err-subtree g c =
    let p = err_from_is_err_and c.from_residual-in_err-subtree.result c.from_residual-in_err-subtree.ensures.1 in
    let digest = g.D.Digest.digest_of in
    let gives = g.S.Source.gives c.args.src.now in
    let shows = nodes_given gives in
    let old = c.args.self.now in
    let b : Budget = (g.S.Source.reads c.args.src.now, c.args.self.now.left) in
    let a = g.S.Source.reads c.subtree.new.src in
    let f = c.in_err-subtree.field-0.0 in
    let none : length c.args.gap.changes.now ≡ 0 = omega (arith, c.if-count-eq0.true) in
    let one : c.args.gap.layer ≡ suc (c.args.gap.layer - 1) = omega (arith, c.if-gap-eq0.false) in
    let new = c.subtree.new.self in
    rw (p.1, p.2)
    (record {
      done = tt;
      counted = tt;
      same = search rules;
      stopped = (gap-subtree gives digest shows (layer_of digest g.row.B) c.args.layers b a (c.args.gap.layer - 1) (gap_of c.args.gap)
          c.in-Some.cid (edge_in old) (log_in old) f c.in-Some.is one (none-left c.args.gap.changes.now none)
          (subst (λ d. IsStopped gives b a (log_in old)
          (subtreeing digest shows c.args.gap.layer d c.in-Some.cid (edge_in old) (log_in old)) f) c.from.ensures
          c.in_err-subtree.ensures.stopped));
      halted = (gap-subtree-halted digest shows old new (layer_of digest g.row.B) c.args.layers (c.args.gap.layer - 1) (gap_of c.args.gap)
          c.in-Some.cid f c.in-Some.is one (none-left c.args.gap.changes.now none)
          (subst (λ d. IsHaltedFrom old new (subtreeing digest shows c.args.gap.layer d c.in-Some.cid (edge_in old) (log_in old)) f)
          c.from.ensures c.in_err-subtree.ensures.halted));
    })

pub returns-in_err-rows : goal.returns-in_err-rows
returns-in_err-rows g c =
    let p = err_from_is_err_and c.from_residual-in_err-rows.result c.from_residual-in_err-rows.ensures.1 in
    let digest = g.D.Digest.digest_of in
    let gives = g.S.Source.gives c.args.src.now in
    let old = c.args.self.now in
    let some : 0 < length c.args.gap.changes.now = omega (arith, c.if-count-eq0.false) in
    let one : c.args.gap.layer ≡ suc (c.args.gap.layer - 1) = omega (arith, c.if-gap-eq0.false) in
    rw (p.1, p.2)
    (record {
      done = tt;
      counted = tt;
      same = search rules;
      stopped = (gap-unread gives digest (nodes_given gives) (layer_of digest g.row.B) c.args.layers
          (g.S.Source.reads c.args.src.now, c.args.self.now.left)
          (g.S.Source.reads c.rows.new.src) (c.args.gap.layer - 1) (gap_of c.args.gap) c.in-Some.cid (edge_in old) (log_in old)
          c.in_err-rows.field-0.0 c.in-Some.is one some c.in_err-rows.ensures.unread);
      halted = (gap-unread-halted digest (nodes_given gives) c.args.self.now c.rows.new.self (layer_of digest g.row.B) c.args.layers gives
          (c.args.gap.layer - 1) (gap_of c.args.gap) c.in-Some.cid c.in_err-rows.field-0.0 c.in-Some.is one some
          c.in_err-rows.ensures.still c.in_err-rows.ensures.unread.cause);
    })

pub returns-in_err-go_on : goal.returns-in_err-go_on
returns-in_err-go_on g c =
    let p = err_from_is_err_and c.from_residual-in_err-go_on.result c.from_residual-in_err-go_on.ensures.1 in
    let digest = g.D.Digest.digest_of in
    let gives = g.S.Source.gives c.args.src.now in
    let shows = nodes_given gives in
    let layer = layer_of digest g.row.B in
    let n = c.args.layers in
    let old = c.args.self.now in
    let mid = c.rows.new.self in
    let k = c.args.gap.layer - 1 in
    let d = c.args.gap.depth in
    let cs = c.args.gap.changes.now in
    let node = c.in_ok-rows.rows.rest in
    let fault = c.in_err-go_on.field-0.0 in
    let some : 0 < length cs = omega (arith, c.if-count-eq0.false) in
    let one : c.args.gap.layer ≡ suc k = omega (arith, c.if-gap-eq0.false) in
    let same : edge_in mid ≡ edge_in old = ap (λ ls. edge_of ls mid.rest) c.rows.ensures.levels
    ∙ ap (edge_of old.levels.items) c.rows.ensures.rest in
    rw (p.1, p.2)
    (record {
      done = tt;
      counted = tt;
      same = search rules;
      stopped = (gap-refused gives digest shows layer n (g.S.Source.reads c.args.src.now, c.args.self.now.left)
          (g.S.Source.reads c.rows.new.src, c.rows.new.self.left) k (gap_of c.args.gap) c.in-Some.cid node
          (edge_in old) (log_in old) (log_in mid) fault c.in-Some.is one some c.in_ok-rows.ensures.shown
          c.in_ok-rows.ensures.counted
          (subst (λ t. IsRefused (node_does digest shows layer n k d cs node t (log_in mid)) fault) same
          (c.in_err-go_on.ensures.fault digest shows layer n)));
      halted = search rules;
    })

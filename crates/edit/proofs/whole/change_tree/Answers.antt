use Rattle.std.proofs.Common.{ap, arith, length, max, subst, ◌+◌, ◌-◌, ◌/◌, ◌∙◌, ◌≡◌, suc, [], Ok}
use Rattle.spec.specs.Layer.{layer as layer_of}
use Rattle.rows.specs.Entries.{shape_of}
use Rattle.lookups.specs.Steps.{nodes_given}
use Rattle.batch_laws.specs.Links.{topping, batch_from, LinkClear, Log}
use Rattle.edit.specs.Edges.{edge_of}
use Rattle.edit.specs.Agenda.{node_does}
use Rattle.edit.specs.Budgets.{Budget}
use Rattle.edit.specs.States.{edge_in, log_in}
use Rattle.edit.specs.Tops.{IsEnded}
use Rattle.batch_laws.specs.Counts.{most_reads, most_from, layers_needed, put_layers}
use Rattle.batch_laws.specs.Previous.{previous_node, previous_gap}
use Rattle.edit.proofs.Bounds.{most-within}
use Rattle.edit.proofs.Making.{shapes-count}
use Rattle.edit.proofs.Wholes.{whole, met, counted-all, counted-within, stopped-within, first-counted, needed, low-layer, root-unread, rows-memory, walk-stopped, finish-stopped, walk-reached, finish-reached, ended-reached}
use Rattle.edit.proofs.Pairing.{counted-then}
use Rattle.edit.proofs.Topping.{was-shown}
use Rattle.std.proofs.lemmas.Result.{err_from_is_err_and}
use Rattle.batch_laws.specs.Within.{at_top}
use Rattle.edit.specs.Stops.{IsStopped}
use Rattle.edit.specs.declared.outcome.Fault.TheVariants.{NoMemory}
use Rattle.edit.specs.Halts.{IsHalted, IsReachedFor}
use Rattle.edit.proofs.whole.change_tree.Goals as goal

pub returns-clause-changed : goal.returns-clause-changed
returns-clause-changed g c =
    let digest = g.D.Digest.digest_of in
    let gives = g.S.Source.gives c.args.src.now in
    let shows = nodes_given gives in
    let layer = layer_of digest g.row.B in
    let n = c.layers_for-layers.result in
    let cs = c.args.changes.now in
    let none = c.in_ok-edge.edge in
    let begun = c.view.new.self in
    let mid = c.walk-walked.new.self in
    let last = c.finish-ended.new.self in
    let node = shape_of c.in_ok-view.view in
    let t = c.top_layer-top.result in
    let d = n - 1 - t in
    let same : edge_in begun ≡ edge_in none = ap (λ ls. edge_of ls begun.rest) c.view.ensures.levels
    ∙ ap (edge_of none.levels.items) c.view.ensures.rest in
    let later = c.view.ensures.same in
    let walked = subst (λ gv. node_does digest (nodes_given gv) layer n t d cs c.of-rows.result.rest (edge_in begun) (log_in begun)
    ≡ Ok (edge_in mid, log_in mid)) later c.in_ok-previous.ensures.step.done in
    let walked_node = subst (λ m. node_does digest shows layer n t d cs m (edge_in begun) (log_in begun)
    ≡ Ok (edge_in mid, log_in mid)) (ap (λ r. r.rest) c.of-rows.ensures) walked in
    let ended = subst (λ gv. IsEnded (topping digest (nodes_given gv) n (edge_in mid) (log_in mid)) c.in_ok-ended.ended.0
    c.in_ok-ended.ended.1 (log_in last)) (c.walk-walked.ensures.step.same ∙ later) c.in_ok-ended.ensures.done in
    let seen = was-shown c.args.root (shows c.args.root) node (log_in none) (log_in begun) c.in_ok-view.ensures.shown in
    let n_is = needed layer (put_layers layer cs) t n (shows c.args.root) node seen.is c.top_layer-top.ensures
    (c.layers_for-layers.ensures ∙ ap (max (suc t)) c.layers_of_puts.ensures) in
    subst (λ m. IsEnded (batch_from digest shows layer m cs c.args.root) c.in_ok-ended.ended.0 c.in_ok-ended.ended.1
    (log_in last)) n_is
    (whole digest shows layer n t d cs c.args.root node (log_in none) (log_in begun) (edge_in begun) (edge_in mid) (log_in mid)
    c.in_ok-ended.ended.0 c.in_ok-ended.ended.1 (log_in last) c.in_ok-edge.ensures.log c.in_ok-view.ensures.shown
    c.top_layer-top.ensures (omega arith) (same ∙ c.in_ok-edge.ensures.edge) walked_node ended)

pub returns-clause-previous : goal.returns-clause-previous
returns-clause-previous g c top h =
    let digest = g.D.Digest.digest_of in
    let shows = nodes_given (g.S.Source.gives c.args.src.now) in
    let t = c.top_layer-top.result in
    let cs = c.args.changes.now in
    let node = shape_of c.in_ok-view.view in
    let values = c.in_ok-previous.previous.items in
    let walked = subst (λ gives. values ≡ previous_node (previous_gap (nodes_given gives) t) cs c.of-rows.result.rest)
    c.view.ensures.same c.in_ok-previous.ensures.previous in
    met shows (layer_of digest g.row.B) t cs c.args.root node top (log_in c.in_ok-edge.edge) (log_in c.view.new.self) values
    c.in_ok-view.ensures.shown c.top_layer-top.ensures
    (walked ∙ ap (λ r. previous_node (previous_gap shows t) cs r.rest) c.of-rows.ensures) h

pub returns-clause-counted : goal.returns-clause-counted
returns-clause-counted g c =
    let digest = g.D.Digest.digest_of in
    let shows = nodes_given (g.S.Source.gives c.args.src.now) in
    let layer = layer_of digest g.row.B in
    let cs = c.args.changes.now in
    let none = c.in_ok-edge.edge in
    let begun = c.view.new.self in
    let mid = c.walk-walked.new.self in
    let last = c.finish-ended.new.self in
    let b : Budget = (g.S.Source.reads c.args.src.now, most_from layer cs (shows c.args.root)) in
    let m : Budget = (g.S.Source.reads c.view.new.src, c.most_reads_below.result) in
    let counted = first-counted shows layer c.top_layer-top.result cs c.args.root (shape_of c.in_ok-view.view) (log_in none)
    (log_in begun) (b.0, none.left) (m.0, begun.left) m.1 c.in_ok-view.ensures.shown c.top_layer-top.ensures
    c.in_ok-edge.ensures.left c.most_reads_below.ensures c.in_ok-view.ensures.counted in
    counted-all b m (g.S.Source.reads c.walk-walked.new.src, mid.left) (g.S.Source.reads c.finish-ended.new.src, last.left)
    (length last.read.items) (log_in none) (log_in begun) (log_in mid) (log_in last) c.in_ok-edge.ensures.log counted
    c.in_ok-previous.ensures.step.counted c.in_ok-ended.ensures.counted (shapes-count last.read.items)

pub returns-clause-most : goal.returns-clause-most
returns-clause-most g c =
    let digest = g.D.Digest.digest_of in
    let shows = nodes_given (g.S.Source.gives c.args.src.now) in
    let layer = layer_of digest g.row.B in
    let cs = c.args.changes.now in
    let none = c.in_ok-edge.edge in
    let begun = c.view.new.self in
    let b : Budget = (g.S.Source.reads c.args.src.now, most_from layer cs (shows c.args.root)) in
    let m : Budget = (g.S.Source.reads c.view.new.src, c.most_reads_below.result) in
    let counted = first-counted shows layer c.top_layer-top.result cs c.args.root (shape_of c.in_ok-view.view) (log_in none)
    (log_in begun) (b.0, none.left) (m.0, begun.left) m.1 c.in_ok-view.ensures.shown c.top_layer-top.ensures
    c.in_ok-edge.ensures.left c.most_reads_below.ensures c.in_ok-view.ensures.counted in
    let most = most-within digest g.row.B g.met.D.Digest.digest_len cs (shows c.args.root) in
    let mid = c.walk-walked.new.self in
    let last = c.finish-ended.new.self in
    counted-within b m (g.S.Source.reads c.walk-walked.new.src, mid.left) (g.S.Source.reads c.finish-ended.new.src, last.left)
    (suc (most_reads (256 / g.row.B) cs)) (log_in none) (log_in begun) (log_in mid) (log_in last) counted
    c.in_ok-previous.ensures.step.counted c.in_ok-ended.ensures.counted most

pub layers_for-layers-requires : goal.layers_for-layers-requires
layers_for-layers-requires g c = record {
  fits = low-layer g.D.Digest.digest_of g.row.B g.met.D.Digest.digest_len (shape_of c.in_ok-view.view) c.top_layer-top.result
      c.top_layer-top.ensures;
}

pub returns-in_err-view-clause-stopped : goal.returns-in_err-view-clause-stopped
returns-in_err-view-clause-stopped g c =
    let p = err_from_is_err_and c.from_residual-in_err-view.result c.from_residual-in_err-view.ensures.1 in
    let digest = g.D.Digest.digest_of in
    let gives = g.S.Source.gives c.args.src.now in
    let shows = nodes_given gives in
    let layer = layer_of digest g.row.B in
    let b = g.S.Source.reads c.args.src.now in
    let cs = c.args.changes.now in
    rw (p.1, p.2)
    (root-unread gives digest shows layer (layers_needed layer (put_layers layer cs) (shows c.args.root)) cs c.args.root b
    (g.S.Source.reads c.view.new.src) c.in_ok-edge.edge.left c.in_err-view.field-0.0 c.in_ok-edge.ensures.left
    c.in_err-view.ensures.unread)

pub returns-in_err-new-clause-stopped : goal.returns-in_err-new-clause-stopped
returns-in_err-new-clause-stopped g c =
    let p = err_from_is_err_and c.from_residual-in_err-new.result c.from_residual-in_err-new.ensures.1 in
    let digest = g.D.Digest.digest_of in
    let gives = g.S.Source.gives c.args.src.now in
    let shows = nodes_given gives in
    let layer = layer_of digest g.row.B in
    let cs = c.args.changes.now in
    let b : Budget = (g.S.Source.reads c.args.src.now, most_from layer cs (shows c.args.root)) in
    let n = c.layers_for-layers.result in
    let none = c.in_ok-edge.edge in
    let begun = c.view.new.self in
    let m : Budget = (g.S.Source.reads c.view.new.src, c.most_reads_below.result) in
    let node = shape_of c.in_ok-view.view in
    let t = c.top_layer-top.result in
    let d = n - 1 - t in
    let clear : edge_in begun ≡ LinkClear = ap (λ ls. edge_of ls begun.rest) c.view.ensures.levels
    ∙ ap (edge_of none.levels.items) c.view.ensures.rest ∙ c.in_ok-edge.ensures.edge in
    let seen = was-shown c.args.root (shows c.args.root) node (log_in none) (log_in begun) c.in_ok-view.ensures.shown in
    let n_is = needed layer (put_layers layer cs) t n (shows c.args.root) node seen.is c.top_layer-top.ensures
    (c.layers_for-layers.ensures ∙ ap (max (suc t)) c.layers_of_puts.ensures) in
    let d_is : d ≡ n - suc t = omega arith in
    let counted = first-counted shows layer t cs c.args.root node (log_in none) (log_in begun) (b.0, none.left)
    (m.0, begun.left) m.1 c.in_ok-view.ensures.shown c.top_layer-top.ensures c.in_ok-edge.ensures.left
    c.most_reads_below.ensures c.in_ok-view.ensures.counted in
    rw (p.1, p.2)
    (subst (λ j. IsStopped gives b m.0 (record { read = []; made = [] })
    (at_top (batch_from digest shows layer j cs c.args.root)) NoMemory) n_is
    (rows-memory gives digest shows layer n cs c.args.root t d node (log_in none) (log_in begun) (edge_in begun)
    c.in_ok-edge.ensures.log c.in_ok-view.ensures.shown c.top_layer-top.ensures d_is clear
    b m counted))

pub returns-in_err-previous-clause-stopped : goal.returns-in_err-previous-clause-stopped
returns-in_err-previous-clause-stopped g c =
    let p = err_from_is_err_and c.from_residual-in_err-previous.result c.from_residual-in_err-previous.ensures.1 in
    let digest = g.D.Digest.digest_of in
    let gives = g.S.Source.gives c.args.src.now in
    let shows = nodes_given gives in
    let layer = layer_of digest g.row.B in
    let cs = c.args.changes.now in
    let b : Budget = (g.S.Source.reads c.args.src.now, most_from layer cs (shows c.args.root)) in
    let n = c.layers_for-layers.result in
    let none = c.in_ok-edge.edge in
    let begun = c.view.new.self in
    let m : Budget = (g.S.Source.reads c.view.new.src, c.most_reads_below.result) in
    let node = shape_of c.in_ok-view.view in
    let t = c.top_layer-top.result in
    let d = n - 1 - t in
    let clear : edge_in begun ≡ LinkClear = ap (λ ls. edge_of ls begun.rest) c.view.ensures.levels
    ∙ ap (edge_of none.levels.items) c.view.ensures.rest ∙ c.in_ok-edge.ensures.edge in
    let seen = was-shown c.args.root (shows c.args.root) node (log_in none) (log_in begun) c.in_ok-view.ensures.shown in
    let n_is = needed layer (put_layers layer cs) t n (shows c.args.root) node seen.is c.top_layer-top.ensures
    (c.layers_for-layers.ensures ∙ ap (max (suc t)) c.layers_of_puts.ensures) in
    let d_is : d ≡ n - suc t = omega arith in
    let counted = first-counted shows layer t cs c.args.root node (log_in none) (log_in begun) (b.0, none.left)
    (m.0, begun.left) m.1 c.in_ok-view.ensures.shown c.top_layer-top.ensures c.in_ok-edge.ensures.left
    c.most_reads_below.ensures c.in_ok-view.ensures.counted in
    let a = g.S.Source.reads c.walk-walked.new.src in
    let f = c.in_err-previous.field-0.0 in
    let step = subst (λ gv. IsStopped gv m a (log_in begun) (node_does digest (nodes_given gv) layer n t d cs
    c.of-rows.result.rest (edge_in begun) (log_in begun)) f) c.view.ensures.same c.in_err-previous.ensures.step.stopped in
    rw (p.1, p.2)
    (subst (λ j. IsStopped gives b a (record { read = []; made = [] })
    (at_top (batch_from digest shows layer j cs c.args.root)) f) n_is
    (walk-stopped gives digest shows layer n cs c.args.root t d node (log_in none) (log_in begun) (edge_in begun)
    c.in_ok-edge.ensures.log c.in_ok-view.ensures.shown c.top_layer-top.ensures d_is clear
    b m a f counted
    (subst (λ r. IsStopped gives m a (log_in begun) (node_does digest shows layer n t d cs r (edge_in begun) (log_in begun)) f)
    (ap (λ r. r.rest) c.of-rows.ensures) step)))

pub returns-in_err-ended-clause-stopped : goal.returns-in_err-ended-clause-stopped
returns-in_err-ended-clause-stopped g c =
    let p = err_from_is_err_and c.from_residual-in_err-ended.result c.from_residual-in_err-ended.ensures.1 in
    let digest = g.D.Digest.digest_of in
    let gives = g.S.Source.gives c.args.src.now in
    let shows = nodes_given gives in
    let layer = layer_of digest g.row.B in
    let cs = c.args.changes.now in
    let b : Budget = (g.S.Source.reads c.args.src.now, most_from layer cs (shows c.args.root)) in
    let n = c.layers_for-layers.result in
    let none = c.in_ok-edge.edge in
    let begun = c.view.new.self in
    let m : Budget = (g.S.Source.reads c.view.new.src, c.most_reads_below.result) in
    let node = shape_of c.in_ok-view.view in
    let t = c.top_layer-top.result in
    let d = n - 1 - t in
    let clear : edge_in begun ≡ LinkClear = ap (λ ls. edge_of ls begun.rest) c.view.ensures.levels
    ∙ ap (edge_of none.levels.items) c.view.ensures.rest ∙ c.in_ok-edge.ensures.edge in
    let seen = was-shown c.args.root (shows c.args.root) node (log_in none) (log_in begun) c.in_ok-view.ensures.shown in
    let n_is = needed layer (put_layers layer cs) t n (shows c.args.root) node seen.is c.top_layer-top.ensures
    (c.layers_for-layers.ensures ∙ ap (max (suc t)) c.layers_of_puts.ensures) in
    let d_is : d ≡ n - suc t = omega arith in
    let counted = first-counted shows layer t cs c.args.root node (log_in none) (log_in begun) (b.0, none.left)
    (m.0, begun.left) m.1 c.in_ok-view.ensures.shown c.top_layer-top.ensures c.in_ok-edge.ensures.left
    c.most_reads_below.ensures c.in_ok-view.ensures.counted in
    let mid = c.walk-walked.new.self in
    let walked = subst (λ gv. node_does digest (nodes_given gv) layer n t d cs c.of-rows.result.rest (edge_in begun) (log_in begun)
    ≡ Ok (edge_in mid, log_in mid)) c.view.ensures.same c.in_ok-previous.ensures.step.done in
    let walked_node = subst (λ r. node_does digest shows layer n t d cs r (edge_in begun) (log_in begun)
    ≡ Ok (edge_in mid, log_in mid)) (ap (λ r. r.rest) c.of-rows.ensures) walked in
    let k : Budget = (g.S.Source.reads c.walk-walked.new.src, mid.left) in
    let a = g.S.Source.reads c.finish-ended.new.src in
    let f = c.in_err-ended.field-0.0 in
    rw (p.1, p.2)
    (subst (λ j. IsStopped gives b a (record { read = []; made = [] })
    (at_top (batch_from digest shows layer j cs c.args.root)) f) n_is
    (finish-stopped gives digest shows layer n cs c.args.root t d node (log_in none) (log_in begun) (edge_in begun)
    c.in_ok-edge.ensures.log c.in_ok-view.ensures.shown c.top_layer-top.ensures d_is clear
    b m k a f (edge_in mid) (log_in mid) counted c.in_ok-previous.ensures.step.counted walked_node
    (subst (λ gv. IsStopped gv k a (log_in mid) (at_top (topping digest (nodes_given gv) n (edge_in mid) (log_in mid))) f)
    (c.walk-walked.ensures.step.same ∙ c.view.ensures.same) c.in_err-ended.ensures.stopped)))

pub returns-in_err-previous-clause-most : goal.returns-in_err-previous-clause-most
returns-in_err-previous-clause-most g c =
    let digest = g.D.Digest.digest_of in
    let shows = nodes_given (g.S.Source.gives c.args.src.now) in
    let layer = layer_of digest g.row.B in
    let cs = c.args.changes.now in
    let none = c.in_ok-edge.edge in
    let begun = c.view.new.self in
    let b : Budget = (g.S.Source.reads c.args.src.now, most_from layer cs (shows c.args.root)) in
    let m : Budget = (g.S.Source.reads c.view.new.src, c.most_reads_below.result) in
    let counted = first-counted shows layer c.top_layer-top.result cs c.args.root (shape_of c.in_ok-view.view) (log_in none)
    (log_in begun) (b.0, none.left) (m.0, begun.left) m.1 c.in_ok-view.ensures.shown c.top_layer-top.ensures
    c.in_ok-edge.ensures.left c.most_reads_below.ensures c.in_ok-view.ensures.counted in
    let most = most-within digest g.row.B g.met.D.Digest.digest_len cs (shows c.args.root) in
    stopped-within b m (g.S.Source.reads c.walk-walked.new.src) (suc (most_reads (256 / g.row.B) cs)) (log_in none) (log_in begun)
    counted
    c.in_err-previous.ensures.step.stopped.few most

pub returns-in_err-ended-clause-most : goal.returns-in_err-ended-clause-most
returns-in_err-ended-clause-most g c =
    let digest = g.D.Digest.digest_of in
    let shows = nodes_given (g.S.Source.gives c.args.src.now) in
    let layer = layer_of digest g.row.B in
    let cs = c.args.changes.now in
    let none = c.in_ok-edge.edge in
    let begun = c.view.new.self in
    let b : Budget = (g.S.Source.reads c.args.src.now, most_from layer cs (shows c.args.root)) in
    let m : Budget = (g.S.Source.reads c.view.new.src, c.most_reads_below.result) in
    let counted = first-counted shows layer c.top_layer-top.result cs c.args.root (shape_of c.in_ok-view.view) (log_in none)
    (log_in begun) (b.0, none.left) (m.0, begun.left) m.1 c.in_ok-view.ensures.shown c.top_layer-top.ensures
    c.in_ok-edge.ensures.left c.most_reads_below.ensures c.in_ok-view.ensures.counted in
    let most = most-within digest g.row.B g.met.D.Digest.digest_len cs (shows c.args.root) in
    let mid = c.walk-walked.new.self in
    let k : Budget = (g.S.Source.reads c.walk-walked.new.src, mid.left) in
    stopped-within b k (g.S.Source.reads c.finish-ended.new.src) (suc (most_reads (256 / g.row.B) cs)) (log_in none) (log_in mid)
    (counted-then b m k (log_in none) (log_in begun) (log_in mid) counted c.in_ok-previous.ensures.step.counted)
    c.in_err-ended.ensures.stopped.few most

pub returns-in_err-previous-clause-reached : goal.returns-in_err-previous-clause-reached
returns-in_err-previous-clause-reached g c =
    let p = err_from_is_err_and c.from_residual-in_err-previous.result c.from_residual-in_err-previous.ensures.1 in
    let digest = g.D.Digest.digest_of in
    let gives = g.S.Source.gives c.args.src.now in
    let shows = nodes_given gives in
    let layer = layer_of digest g.row.B in
    let cs = c.args.changes.now in
    let b : Budget = (g.S.Source.reads c.args.src.now, most_from layer cs (shows c.args.root)) in
    let n = c.layers_for-layers.result in
    let none = c.in_ok-edge.edge in
    let begun = c.view.new.self in
    let m : Budget = (g.S.Source.reads c.view.new.src, c.most_reads_below.result) in
    let node = shape_of c.in_ok-view.view in
    let t = c.top_layer-top.result in
    let d = n - 1 - t in
    let clear : edge_in begun ≡ LinkClear = ap (λ ls. edge_of ls begun.rest) c.view.ensures.levels
    ∙ ap (edge_of none.levels.items) c.view.ensures.rest ∙ c.in_ok-edge.ensures.edge in
    let seen = was-shown c.args.root (shows c.args.root) node (log_in none) (log_in begun) c.in_ok-view.ensures.shown in
    let n_is = needed layer (put_layers layer cs) t n (shows c.args.root) node seen.is c.top_layer-top.ensures
    (c.layers_for-layers.ensures ∙ ap (max (suc t)) c.layers_of_puts.ensures) in
    let d_is : d ≡ n - suc t = omega arith in
    let counted = first-counted shows layer t cs c.args.root node (log_in none) (log_in begun) (b.0, none.left)
    (m.0, begun.left) m.1 c.in_ok-view.ensures.shown c.top_layer-top.ensures c.in_ok-edge.ensures.left
    c.most_reads_below.ensures c.in_ok-view.ensures.counted in
    let begins = ap (λ (l : Log). length l.read) c.in_ok-edge.ensures.log in
    let all : m.1 + length (log_in begun).read ≡ b.1 = let l = counted.left in omega (arith, l, begins) in
    let mid = c.walk-walked.new.self in
    let f = c.in_err-previous.field-0.0 in
    let step = subst (λ gv. IsHalted (m.1 + length (log_in begun).read) (edge_in mid) (log_in mid)
    (node_does digest (nodes_given gv) layer n t d cs c.of-rows.result.rest (edge_in begun) (log_in begun)) f)
    c.view.ensures.same c.in_err-previous.ensures.step.halted in
    rw (p.1, p.2)
    (subst (λ j. IsReachedFor b.1 (batch_from digest shows layer j cs c.args.root) f) n_is
    (walk-reached gives digest shows layer n cs c.args.root t d node (log_in none) (log_in begun) (edge_in begun)
    c.in_ok-edge.ensures.log c.in_ok-view.ensures.shown c.top_layer-top.ensures d_is clear b.1 (edge_in mid) (log_in mid) f
    (subst (λ most. IsHalted most (edge_in mid) (log_in mid)
    (node_does digest shows layer n t d cs node (edge_in begun) (log_in begun)) f) all
    (subst (λ r. IsHalted (m.1 + length (log_in begun).read) (edge_in mid) (log_in mid)
    (node_does digest shows layer n t d cs r (edge_in begun) (log_in begun)) f) (ap (λ r. r.rest) c.of-rows.ensures) step))
    c.is_written.ensures))

pub returns-in_err-ended-clause-reached : goal.returns-in_err-ended-clause-reached
returns-in_err-ended-clause-reached g c =
    let p = err_from_is_err_and c.from_residual-in_err-ended.result c.from_residual-in_err-ended.ensures.1 in
    let digest = g.D.Digest.digest_of in
    let gives = g.S.Source.gives c.args.src.now in
    let shows = nodes_given gives in
    let layer = layer_of digest g.row.B in
    let cs = c.args.changes.now in
    let b : Budget = (g.S.Source.reads c.args.src.now, most_from layer cs (shows c.args.root)) in
    let n = c.layers_for-layers.result in
    let none = c.in_ok-edge.edge in
    let begun = c.view.new.self in
    let m : Budget = (g.S.Source.reads c.view.new.src, c.most_reads_below.result) in
    let node = shape_of c.in_ok-view.view in
    let t = c.top_layer-top.result in
    let d = n - 1 - t in
    let clear : edge_in begun ≡ LinkClear = ap (λ ls. edge_of ls begun.rest) c.view.ensures.levels
    ∙ ap (edge_of none.levels.items) c.view.ensures.rest ∙ c.in_ok-edge.ensures.edge in
    let seen = was-shown c.args.root (shows c.args.root) node (log_in none) (log_in begun) c.in_ok-view.ensures.shown in
    let n_is = needed layer (put_layers layer cs) t n (shows c.args.root) node seen.is c.top_layer-top.ensures
    (c.layers_for-layers.ensures ∙ ap (max (suc t)) c.layers_of_puts.ensures) in
    let d_is : d ≡ n - suc t = omega arith in
    let counted = first-counted shows layer t cs c.args.root node (log_in none) (log_in begun) (b.0, none.left)
    (m.0, begun.left) m.1 c.in_ok-view.ensures.shown c.top_layer-top.ensures c.in_ok-edge.ensures.left
    c.most_reads_below.ensures c.in_ok-view.ensures.counted in
    let mid = c.walk-walked.new.self in
    let walked = subst (λ gv. node_does digest (nodes_given gv) layer n t d cs c.of-rows.result.rest (edge_in begun) (log_in begun)
    ≡ Ok (edge_in mid, log_in mid)) c.view.ensures.same c.in_ok-previous.ensures.step.done in
    let walked_node = subst (λ r. node_does digest shows layer n t d cs r (edge_in begun) (log_in begun)
    ≡ Ok (edge_in mid, log_in mid)) (ap (λ r. r.rest) c.of-rows.ensures) walked in
    let begins = ap (λ (l : Log). length l.read) c.in_ok-edge.ensures.log in
    let all : m.1 + length (log_in begun).read ≡ b.1 = let l = counted.left in omega (arith, l, begins) in
    let last = c.finish-ended.new.self in
    let f = c.in_err-ended.field-0.0 in
    let more : mid.left + length (log_in mid).read ≡ b.1 = let l = c.in_ok-previous.ensures.step.counted.left in omega (arith, l, all) in
    rw (p.1, p.2)
    (subst (λ j. IsReachedFor b.1 (batch_from digest shows layer j cs c.args.root) f) n_is
    (finish-reached gives digest shows layer n cs c.args.root t d node (log_in none) (log_in begun) (edge_in begun)
    c.in_ok-edge.ensures.log c.in_ok-view.ensures.shown c.top_layer-top.ensures d_is clear b.1 (edge_in last) (log_in last) f
    (edge_in mid) (log_in mid) walked_node
    (subst (λ most. IsHalted most (edge_in last) (log_in last) (at_top (topping digest shows n (edge_in mid) (log_in mid))) f) more
    (subst (λ gv. IsHalted (mid.left + length (log_in mid).read) (edge_in last) (log_in last)
    (at_top (topping digest (nodes_given gv) n (edge_in mid) (log_in mid))) f)
    (c.walk-walked.ensures.step.same ∙ c.view.ensures.same) c.in_err-ended.ensures.halted)) c.is_written-2.ensures))

pub returns-clause-reached : goal.returns-clause-reached
returns-clause-reached g c =
    let digest = g.D.Digest.digest_of in
    let shows = nodes_given (g.S.Source.gives c.args.src.now) in
    let layer = layer_of digest g.row.B in
    let cs = c.args.changes.now in
    let none = c.in_ok-edge.edge in
    let begun = c.view.new.self in
    let mid = c.walk-walked.new.self in
    let last = c.finish-ended.new.self in
    let most = most_from layer cs (shows c.args.root) in
    let b : Budget = (g.S.Source.reads c.args.src.now, most) in
    let m : Budget = (g.S.Source.reads c.view.new.src, c.most_reads_below.result) in
    let counted = first-counted shows layer c.top_layer-top.result cs c.args.root (shape_of c.in_ok-view.view) (log_in none)
    (log_in begun) (b.0, none.left) (m.0, begun.left) m.1 c.in_ok-view.ensures.shown c.top_layer-top.ensures
    c.in_ok-edge.ensures.left c.most_reads_below.ensures c.in_ok-view.ensures.counted in
    let begins = ap (λ (l : Log). length l.read) c.in_ok-edge.ensures.log in
    let all : m.1 + length (log_in begun).read ≡ b.1 = let l = counted.left in omega (arith, l, begins) in
    let more : mid.left + length (log_in mid).read ≡ b.1 = let l = c.in_ok-previous.ensures.step.counted.left in omega (arith, l, all) in
    let end : last.left + length (log_in last).read ≡ b.1 = let l = c.in_ok-ended.ensures.counted.left in omega (arith, l, more) in
    ended-reached most _ c.in_ok-ended.ended.0 c.in_ok-ended.ended.1 (log_in last) (returns-clause-changed g c)
    (omega (arith, end)) c.is_written-2.ensures.made

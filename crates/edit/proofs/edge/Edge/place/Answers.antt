use Rattle.std.proofs.Common.{◌≡◌, sym, subst, arith, false, drop, Ok}
use Rattle.lookups.specs.Steps.{nodes_given}
use Rattle.batch_laws.specs.Links.{ask, LinkClear}
use Rattle.edit.specs.Edges.{edge_of, is_clear}
use Rattle.edit.specs.States.{log_in, IsComing}
use Rattle.edit.proofs.Subtrees.{taken-open, taken-some, coming}
use Rattle.std.proofs.lemmas.Result.{err_from_is_err_and}
use Rattle.edit.specs.Stops.{IsUnread, IsUnshown}
use Rattle.edit.proofs.Arriving.{part-unopened, part-unread}
use Rattle.edit.proofs.Halts.{place-unopened, place-unread}
use Rattle.edit.proofs.edge.Edge.place.Goals as goal
use Rattle.edit.proofs.edge.Edge.place.Goals.{else-len-depth-via-then-len-depth+else-is_none, else-len-depth-via-else-len-depth}

pub returns-clause-comes : goal.returns-clause-comes
returns-clause-comes g c =
    let digest = g.D.Digest.digest_of in
    let shows = nodes_given (g.S.Source.gives c.args.src.now) in
    let old = c.args.self.now in
    let mid = c.open_at.new.self in
    let new = c.rows.new.self in
    let node = c.in_ok-rows.field-0.rest in
    let taken : is_clear (edge_of (drop c.args.depth old.levels.items) old.rest) ≡ false = elim c.else-len-depth.branch [
      | else-len-depth-via-then-len-depth+else-is_none w ↦
          taken-some c.args.depth old.levels.items old.rest w.is_none.result w.is_none.ensures w.if-is_none.false
      | else-len-depth-via-else-len-depth w ↦
          taken-open c.args.depth old.levels.items old.rest (omega (arith, w.if-len-depth.false, c.len.ensures))
    ] in
    let a = subst (λ gives. ask (nodes_given gives) c.args.cid LinkClear (log_in mid) ≡ Ok (node, log_in new)) c.open_at.ensures.same
    c.in_ok-rows.ensures.shown in
    let k = coming digest shows c.args.depth c.args.cid old.levels.items mid.levels.items old.rest mid.rest (log_in old)
    (log_in mid) (log_in new) node taken c.in_ok-open_at.ensures.opened a in
    subst (λ ls. IsComing digest shows c.args.depth c.args.cid old.levels.items old.rest (log_in old) node ls new.rest (log_in new))
    (sym c.rows.ensures.levels)
    (subst (λ r. IsComing digest shows c.args.depth c.args.cid old.levels.items old.rest (log_in old) node mid.levels.items r
    (log_in new)) (sym c.rows.ensures.rest) k)

pub returns-in_err-open_at-clause-stopped : goal.returns-in_err-open_at-clause-stopped
returns-in_err-open_at-clause-stopped g c k =
    let p = err_from_is_err_and c.from_residual.result c.from_residual.ensures.1 in
    let gives = g.S.Source.gives c.args.src.now in
    let old = c.args.self.now in
    let taken : is_clear (edge_of (drop c.args.depth old.levels.items) old.rest) ≡ false = elim c.else-len-depth.branch [
      | else-len-depth-via-then-len-depth+else-is_none w ↦
          taken-some c.args.depth old.levels.items old.rest w.is_none.result w.is_none.ensures w.if-is_none.false
      | else-len-depth-via-else-len-depth w ↦
          taken-open c.args.depth old.levels.items old.rest (omega (arith, w.if-len-depth.false, c.len.ensures))
    ] in
    rw (p.1, p.2)
    (part-unopened gives g.D.Digest.digest_of (nodes_given gives) (g.S.Source.reads c.args.src.now, c.args.self.now.left)
    (g.S.Source.reads c.open_at.new.src) k c.args.cid (edge_of (drop c.args.depth old.levels.items) old.rest) (log_in old)
    c.in_err-open_at.field-0.0 taken c.in_err-open_at.ensures.stopped)

pub returns-in_err-rows-clause-stopped : goal.returns-in_err-rows-clause-stopped
returns-in_err-rows-clause-stopped g c k =
    let p = err_from_is_err_and c.from_residual-in_err-rows.result c.from_residual-in_err-rows.ensures.1 in
    let gives = g.S.Source.gives c.args.src.now in
    let old = c.args.self.now in
    let mid = c.open_at.new.self in
    let f = c.in_err-rows.field-0.0 in
    let taken : is_clear (edge_of (drop c.args.depth old.levels.items) old.rest) ≡ false = elim c.else-len-depth.branch [
      | else-len-depth-via-then-len-depth+else-is_none w ↦
          taken-some c.args.depth old.levels.items old.rest w.is_none.result w.is_none.ensures w.if-is_none.false
      | else-len-depth-via-else-len-depth w ↦
          taken-open c.args.depth old.levels.items old.rest (omega (arith, w.if-len-depth.false, c.len.ensures))
    ] in
    rw (p.1, p.2)
    (part-unread gives g.D.Digest.digest_of (nodes_given gives) (g.S.Source.reads c.args.src.now, c.args.self.now.left)
    (g.S.Source.reads c.open_at.new.src, c.open_at.new.self.left) (g.S.Source.reads c.rows.new.src) k c.args.depth c.args.cid
    old.levels.items
    mid.levels.items old.rest mid.rest (log_in old) (log_in mid) f taken c.in_ok-open_at.ensures.opened
    c.in_ok-open_at.ensures.counted
    (subst (λ gv. IsUnread gv (g.S.Source.reads c.open_at.new.src, c.open_at.new.self.left) (g.S.Source.reads c.rows.new.src)
    c.args.cid (nodes_given gv c.args.cid) f) c.open_at.ensures.same c.in_err-rows.ensures.unread))

pub returns-in_err-open_at-clause-halted : goal.returns-in_err-open_at-clause-halted
returns-in_err-open_at-clause-halted g c k above fs =
    let p = err_from_is_err_and c.from_residual.result c.from_residual.ensures.1 in
    let old = c.args.self.now in
    let taken : is_clear (edge_of (drop c.args.depth old.levels.items) old.rest) ≡ false = elim c.else-len-depth.branch [
      | else-len-depth-via-then-len-depth+else-is_none w ↦
          taken-some c.args.depth old.levels.items old.rest w.is_none.result w.is_none.ensures w.if-is_none.false
      | else-len-depth-via-else-len-depth w ↦
          taken-open c.args.depth old.levels.items old.rest (omega (arith, w.if-len-depth.false, c.len.ensures))
    ] in
    rw (p.1, p.2)
    (place-unopened old c.open_at.new.self g.D.Digest.digest_of (nodes_given (g.S.Source.gives c.args.src.now)) above k
    c.args.depth fs c.args.cid c.in_err-open_at.field-0.0 taken c.in_err-open_at.ensures.still c.in_err-open_at.ensures.halted)

pub returns-in_err-rows-clause-halted : goal.returns-in_err-rows-clause-halted
returns-in_err-rows-clause-halted g c k above fs =
    let p = err_from_is_err_and c.from_residual-in_err-rows.result c.from_residual-in_err-rows.ensures.1 in
    let gives = g.S.Source.gives c.args.src.now in
    let old = c.args.self.now in
    let mid = c.open_at.new.self in
    let f = c.in_err-rows.field-0.0 in
    let taken : is_clear (edge_of (drop c.args.depth old.levels.items) old.rest) ≡ false = elim c.else-len-depth.branch [
      | else-len-depth-via-then-len-depth+else-is_none w ↦
          taken-some c.args.depth old.levels.items old.rest w.is_none.result w.is_none.ensures w.if-is_none.false
      | else-len-depth-via-else-len-depth w ↦
          taken-open c.args.depth old.levels.items old.rest (omega (arith, w.if-len-depth.false, c.len.ensures))
    ] in
    rw (p.1, p.2)
    (place-unread gives old mid c.rows.new.self g.D.Digest.digest_of (nodes_given gives) above k c.args.depth fs c.args.cid f
    taken c.in_ok-open_at.ensures.opened c.in_ok-open_at.ensures.counted.left c.in_err-rows.ensures.still
    (subst (λ gv. IsUnshown gv mid.left c.args.cid (nodes_given gv c.args.cid) f) c.open_at.ensures.same
    c.in_err-rows.ensures.unread.cause))

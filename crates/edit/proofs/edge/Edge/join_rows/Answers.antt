use Rattle.std.proofs.Common.{sym, ap, ◌∙◌, ◌++◌, ◌∷◌, [], subst, append_assoc}
use Rattle.cid.specs.CidRef.{bytes_of}
use Rattle.spec.specs.NodeFormat.{MoreLinks, first_link}
use Rattle.edit.specs.States.{log_in}
use Rattle.edit.proofs.Subtrees.{joined-none, joined-more}
use Rattle.std.proofs.lemmas.Result.{err_from_is_err_and}
use Rattle.rows.specs.Drafts.{IsFaultOfAll}
use Rattle.spec.specs.Tree.{Pair}
use Rattle.batch_laws.specs.Links.{Rows, rows_in_shape}
use Rattle.edit.proofs.Arriving.{joined-refused, begins-refused}
use Rattle.edit.proofs.edge.Edge.join_rows.Goals as goal

pub returns-in_default-clause-joined : goal.returns-in_default-clause-joined
returns-in_default-clause-joined g c =
    joined-none g.D.Digest.digest_of c.args.depth c.args.rows.rest (first_link c.args.rows.rest) c.args.self.now.levels.items
    c.args.self.now.rest (log_in c.args.self.now) c.in_default.ensures.none c.requires.within

pub returns-clause-joined : goal.returns-clause-joined
returns-clause-joined g c =
    let v = bytes_of c.in-Some.value in
    let r = c.next.new.self.rest in
    let l = first_link c.args.rows.rest in
    joined-more g.D.Digest.digest_of c.args.depth c.args.rows.rest r l (c.key.result.now, v) c.args.self.now.levels.items
    c.close_below.new.self.levels.items c.pop.new.self.items c.push.new.self.items c.in-Some-pop.level c.pair.new.self
    c.copy_rows.new.written c.args.self.now.rest c.in_ok-link.link c.in_ok-self.field-0 (log_in c.args.self.now)
    (log_in c.close_below.new.self) (c.in-Some.ensures.some ∙ ap (λ k. MoreLinks l (k, v) r) (sym c.key.ensures))
    c.requires.within c.in_ok-link.ensures.left c.in-Some-pop.ensures.items c.in_ok-link.ensures.closed c.in_ok-pair.ensures.ok
    c.in_ok-self.ensures.rows c.in_ok-push.ensures.items c.in_ok-self.ensures.last

pub returns-in_err-pair-clause-fault : goal.returns-in_err-pair-clause-fault
returns-in_err-pair-clause-fault g c above begun cut =
    let p = err_from_is_err_and c.from_residual-in_err-pair.result c.from_residual-in_err-pair.ensures.1 in
    let v = bytes_of c.in-Some.value in
    let r = c.next.new.self.rest in
    let l = first_link c.args.rows.rest in
    let e : Pair = (c.key.result.now, v) in
    let f = c.in_err-pair.field-0.0 in
    let row : Rows = (c.in_ok-link.link, e) ∷ [] in
    rw (p.1, p.2)
    (joined-refused g.D.Digest.digest_of c.args.depth c.args.rows.rest r l e c.args.self.now.levels.items
    c.close_below.new.self.levels.items above c.pop.new.self.items begun c.in-Some-pop.level c.args.self.now.rest
    c.in_ok-link.link (log_in c.args.self.now) (log_in c.close_below.new.self) f
    (c.in-Some.ensures.some ∙ ap (λ k. MoreLinks l (k, v) r) (sym c.key.ensures)) c.in_ok-link.ensures.left
    c.in-Some-pop.ensures.items c.in_ok-link.ensures.closed
    (begins-refused f (c.in-Some-pop.level ++ row) (rows_in_shape r) _
    (append_assoc c.in-Some-pop.level row (rows_in_shape r)) c.in_err-pair.ensures.fault) cut)

pub returns-in_err-self-clause-fault : goal.returns-in_err-self-clause-fault
returns-in_err-self-clause-fault g c above begun cut =
    let p = err_from_is_err_and c.from_residual-in_err-self.result c.from_residual-in_err-self.ensures.1 in
    let v = bytes_of c.in-Some.value in
    let r = c.next.new.self.rest in
    let l = first_link c.args.rows.rest in
    let e : Pair = (c.key.result.now, v) in
    let f = c.in_err-self.field-0.0 in
    let row : Rows = (c.in_ok-link.link, e) ∷ [] in
    rw (p.1, p.2)
    (joined-refused g.D.Digest.digest_of c.args.depth c.args.rows.rest r l e c.args.self.now.levels.items
    c.close_below.new.self.levels.items above c.pop.new.self.items begun c.in-Some-pop.level c.args.self.now.rest
    c.in_ok-link.link (log_in c.args.self.now) (log_in c.close_below.new.self) f
    (c.in-Some.ensures.some ∙ ap (λ k. MoreLinks l (k, v) r) (sym c.key.ensures)) c.in_ok-link.ensures.left
    c.in-Some-pop.ensures.items c.in_ok-link.ensures.closed
    (subst (λ xs. IsFaultOfAll xs f) (ap (λ xs. xs ++ rows_in_shape r) c.in_ok-pair.ensures.ok
    ∙ append_assoc c.in-Some-pop.level row (rows_in_shape r)) c.in_err-self.ensures.fault) cut)

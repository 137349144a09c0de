use Rattle.std.proofs.Common.{refl, sym, ap, subst, ◌∙◌}
use Rattle.std.proofs.lemmas.Result.{err_from_is_err_and}
use Rattle.cid.specs.CidRef.{bytes_of}
use Rattle.spec.specs.NodeFormat.{MoreLinks}
use Rattle.edit.specs.Passing.{IsUntouched}
use Rattle.edit.proofs.Runs.{key-of-last}
use Rattle.edit.proofs.Untouched.{taken-more, taken-none, untaken-more}
use Rattle.edit.proofs.level.copy_next.Goals as goal

pub returns-in_err-pair-clause-fault : goal.returns-in_err-pair-clause-fault
returns-in_err-pair-clause-fault g c =
    let p = err_from_is_err_and c.from_residual.result c.from_residual.ensures.1 in
    let cs = c.args.changes.now in
    let s = c.args.rows.now.rest in
    let r = c.next.new.self.rest in
    let v = bytes_of c.in-Some.value in
    let l = c.to_cid-link.result in
    let key = c.key-2.result.now in
    let written = c.args.written.now in
    let touched : IsUntouched c.args.layer cs l c.key.result.now = c.if-not-is_untouched.ensures l c.is_some.ensures refl in
    rw (p.1, p.2)
    (untaken-more c.args.layer cs written written s s r l (key, v) c.in_err-pair.field-0.0
    (taken-none c.args.layer cs written s)
    (c.in-Some.ensures.some ∙ ap (λ x. MoreLinks x (c.next.new.self.before, v) r) (sym (c.to_cid-link.ensures ∙ c.link.ensures))
    ∙ ap (λ k. MoreLinks l (k, v) r) (sym c.key-2.ensures))
    (subst (IsUntouched c.args.layer cs l) (c.key.ensures ∙ sym c.key-2.ensures) touched) c.in_err-pair.ensures.fault)

pub returns-clause-follows : goal.returns-clause-follows
returns-clause-follows g c =
    key-of-last c.args.written.now c.pair.new.self c.to_cid-link.result c.key-2.result.now (bytes_of c.in-Some.value)
    c.next.new.self.before c.in_ok-pair.ensures.ok c.key-2.ensures

pub returns-clause-came : goal.returns-clause-came
returns-clause-came g c =
    let cs = c.args.changes.now in
    let s = c.args.rows.now.rest in
    let r = c.next.new.self.rest in
    let v = bytes_of c.in-Some.value in
    let l = c.to_cid-link.result in
    let key = c.key-2.result.now in
    let written = c.args.written.now in
    let touched : IsUntouched c.args.layer cs l c.key.result.now = c.if-not-is_untouched.ensures l c.is_some.ensures refl in
    taken-more c.args.layer cs written written c.pair.new.self s s r l (key, v) (taken-none c.args.layer cs written s)
    (c.in-Some.ensures.some ∙ ap (λ x. MoreLinks x (c.next.new.self.before, v) r) (sym (c.to_cid-link.ensures ∙ c.link.ensures))
    ∙ ap (λ k. MoreLinks l (k, v) r) (sym c.key-2.ensures))
    (subst (IsUntouched c.args.layer cs l) (c.key.ensures ∙ sym c.key-2.ensures) touched) c.in_ok-pair.ensures.ok

use Rattle.std.specs.Prelude.{IfOk, IfErr, OnOk}
use Rattle.std.proofs.Common.{◌≡◌, sym, ap, subst, ◌∙◌}
use Rattle.std.proofs.lemmas.Result.{err_from_is_err_and}
use Rattle.cid.specs.CidRef.{bytes_of}
use Rattle.spec.specs.NodeFormat.{first_link}
use Rattle.edit_laws.specs.ShapeEdit.{last_link}
use Rattle.rows.specs.Drafts.{IsFaultOfAll}
use Rattle.edit.proofs.Making.{rows-refused}
use Rattle.edit.proofs.Runs.{rest-came, key-of-last}
use Rattle.edit.proofs.level.copy_rows.Goals as goal

pub returns-in_err-pair-clause-fault : goal.returns-in_err-pair-clause-fault
returns-in_err-pair-clause-fault g c =
    let p = err_from_is_err_and c.from_residual.result c.from_residual.ensures.1 in
    let rest = c.args.rows.now.rest in
    rw (p.1, p.2)
    (rows-refused c.in_err-pair.field-0.0 c.args.written.now rest c.next.new.self.rest c.to_cid-link.result (first_link rest)
    c.key.result.now c.next.new.self.before (bytes_of c.in-Some.value) c.in-Some.ensures.some
    (c.to_cid-link.ensures ∙ c.link.ensures) c.key.ensures c.in_err-pair.ensures.fault)

pub run_rows-requires-2 : goal.run_rows-requires-2
run_rows-requires-2 g c = record {
  follows = key-of-last c.args.written.now c.pair.new.self c.to_cid-link.result c.key.result.now (bytes_of c.in-Some.value)
      c.next.new.self.before c.in_ok-pair.ensures.ok c.key.ensures;
}

pub returns-clause-rows : goal.returns-clause-rows
returns-clause-rows g c =
    let rest = c.args.rows.now.rest in
    subst (λ xs. OnOk c.run_rows-2.result (c.run_rows-2.new.written ≡ xs))
    (rest-came c.args.written.now c.pair.new.self rest c.next.new.self.rest c.to_cid-link.result (first_link rest)
    c.key.result.now c.next.new.self.before (bytes_of c.in-Some.value) c.in_ok-pair.ensures.ok c.in-Some.ensures.some
    (c.to_cid-link.ensures ∙ c.link.ensures) c.key.ensures) c.run_rows-2.ensures.rows

pub returns-clause-last : goal.returns-clause-last
returns-clause-last g c =
    subst (λ l. IfOk c.run_rows-2.result (λ last. last ≡ l)) (sym (ap last_link c.in-Some.ensures.some))
    c.run_rows-2.ensures.last

pub returns-clause-fault : goal.returns-clause-fault
returns-clause-fault g c =
    let rest = c.args.rows.now.rest in
    subst (λ xs. IfErr c.run_rows-2.result (IsFaultOfAll xs))
    (rest-came c.args.written.now c.pair.new.self rest c.next.new.self.rest c.to_cid-link.result (first_link rest)
    c.key.result.now c.next.new.self.before (bytes_of c.in-Some.value) c.in_ok-pair.ensures.ok c.in-Some.ensures.some
    (c.to_cid-link.ensures ∙ c.link.ensures) c.key.ensures) c.run_rows-2.ensures.fault

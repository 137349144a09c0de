use Rattle.std.proofs.Common.{map, sym, subst}
use Rattle.std.specs.Arc.{arc_value}
use Rattle.std.proofs.lemmas.Result.{err_from_is_err_and}
use Rattle.edit.specs.Batches.{IsAnswer}
use Rattle.edit.specs.States.{log_in}
use Rattle.edit.proofs.Answering.{is-answer}
use Rattle.edit.proofs.singles.edit_of.Goals as goal

pub returns-in_err-edit-clause-fault : goal.returns-in_err-edit-clause-fault
returns-in_err-edit-clause-fault g c =
    let p = err_from_is_err_and c.from_residual.result c.from_residual.ensures.1 in
    rw (p.1, p.2) c.in_err-edit.ensures.fault

pub returns-clause-answer : goal.returns-clause-answer
returns-clause-answer g c answer ended =
    let n = c.args.changed in
    let edit = c.in_ok-edit.edit in
    subst (λ r. IsAnswer g.D.Digest.digest_of answer r (map arc_value edit.add.items) edit.drop.items)
    (sym c.in_ok-edit.ensures.root)
    (is-answer g.D.Digest.digest_of answer n.root n.gone (log_in n.edge) ended (map arc_value edit.add.items) edit.drop.items
    c.in_ok-edit.ensures.add c.in_ok-edit.ensures.drop c.in_ok-edit.ensures.free c.in_ok-edit.ensures.all_free)

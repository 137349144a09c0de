use Rattle.std.proofs.Common.{ℕ, List, Err, sym, ap, ◌∙◌}
use Rattle.std.proofs.lemmas.Result.{err_from_is_err_and}
use Rattle.spec.specs.Exports.{at_place, record_for}
use Rattle.repository_check.specs.Views.{check_fault_of, lent}
use Rattle.repository_check.proofs.Steps.{Fails-same, Gives-at_err}
use Rattle.repository_check.proofs.Taken.{takes-next, takes-stop, takes-all}
use Rattle.repository_check.proofs.records.records_in.Goals as goal

pub returns-in_err-record : goal.returns-in_err-record
returns-in_err-record g c =
    let p = err_from_is_err_and c.from_residual-in_err-record.result c.from_residual-in_err-record.ensures.1 in
    let e = c.in_err-record.field-0.0 in
    let x = c.index-pairs-place.result in
    Gives-at_err (λ records. lent records.items) check_fault_of e c.from_residual-in_err-record.result _ (p.1 ∙ ap Err p.2)
    (takes-stop c.args.places.now c.args.pairs.now c.loop-place.place x c.loop-place.records.items (check_fault_of e) c.loop-place-test.true
    c.index-pairs-place.is
    (Fails-same (check_fault_of e) _ _
    (ap (λ (k : List ℕ). at_place c.loop-place.place (record_for c.args.places.now (k, x.1))) (sym c.deref.ensures.value)) c.in_err-record.ensures)
    c.loop-place.invariant)

pub loop-place-preserved : goal.loop-place-preserved
loop-place-preserved g c =
    let x = c.index-pairs-place.result in
    takes-next c.args.places.now c.args.pairs.now c.loop-place.place x c.loop-place.records.items c.push.new.self.items c.in_ok-record.record
    c.loop-place-test.true c.index-pairs-place.is
    (ap (λ (k : List ℕ). at_place c.loop-place.place (record_for c.args.places.now (k, x.1))) (sym c.deref.ensures.value) ∙ c.in_ok-record.ensures)
    c.in_ok-push.ensures.items c.loop-place.invariant

pub returns : goal.returns
returns g c =
    takes-all c.args.places.now c.args.pairs.now c.loop-place.place c.loop-place.records.items c.loop-place-test.false c.loop-place.invariant

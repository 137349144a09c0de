use Rattle.std.proofs.Common.{◌<◌, length, ap, sym, subst, ◌∙◌, Err, arith}
use Rattle.std.proofs.lemmas.Result.{err_from_is_err_and}
use Rattle.spec.specs.Reading.{Fails}
use Rattle.event_writing.specs.Views.{untold_fault_of}
use Rattle.event_writing.specs.Sources.{given_size}
use Rattle.event_writing.proofs.EachOp.{gives-err, tests-next, tests-stop}
use Rattle.event_writing.proofs.left.test_sizes.Goals as goal

pub returns-in_err-test_size-clause-test : goal.returns-in_err-test_size-clause-test
returns-in_err-test_size-clause-test g c =
    let p = err_from_is_err_and c.from_residual.result c.from_residual.ensures.1 in
    let e = c.in_err-test_size.field-0.0 in
    let cs = c.args.ops.now in
    let i = c.loop-place.place in
    let op = c.index-ops-place.result in
    let lt : i < length cs = omega arith in
    gives-err _ e c.from_residual.result _ (p.1 ∙ ap Err p.2)
    (tests-stop (given_size (g.S.Source.gives c.args.src.now)) cs i op (untold_fault_of e) lt c.index-ops-place.is
    (subst (λ f. Fails (untold_fault_of e) (given_size f i op)) c.loop-place.invariant.same c.in_err-test_size.ensures.test)
    c.loop-place.invariant.tests)

pub loop-place-preserved : goal.loop-place-preserved
loop-place-preserved g c =
    let cs = c.args.ops.now in
    let i = c.loop-place.place in
    let op = c.index-ops-place.result in
    let lt : i < length cs = omega arith in
    record {
      same = c.in_ok-test_size.ensures.same ∙ c.loop-place.invariant.same;
      tests = tests-next (given_size (g.S.Source.gives c.args.src.now)) cs i op c.in_ok-test_size.field-0 lt c.index-ops-place.is
          (ap (λ f. given_size f i op) (sym c.loop-place.invariant.same) ∙ c.in_ok-test_size.ensures.test) c.loop-place.invariant.tests;
    }

use Rattle.std.proofs.Common.{Err, length, sym, ap, ◌∙◌, arith}
use Rattle.std.proofs.lemmas.List.{length-map}
use Rattle.std.specs.Prelude.{IfSome}
use Rattle.std.proofs.lemmas.Result.{err_from_is_err_and}
use Rattle.spec.specs.Exports.{IsFirstFault, records_from}
use Rattle.car_reader.specs.Views.{car_of, section_of, sections_of}
use Rattle.signed_commits.specs.Views.{commit_of}
use Rattle.repository_check.specs.Views.{check_fault_of, lent, pairs_of}
use Rattle.repository_check.proofs.FirstFaults.{first-of_file}
use Rattle.repository_check.proofs.Refusals.{err-is}
use Rattle.repository_check.proofs.Steps.{Fails-same}
use Rattle.repository_check.proofs.Whole.{first-commit, first-tree, first-record, exported, cids-are, as-many}
use Rattle.repository_check.proofs.checking.check.Goals as goal

pub returns-in_err-car-clause-fault : goal.returns-in_err-car-clause-fault
returns-in_err-car-clause-fault g c =
    let p = err_from_is_err_and c.from_residual.result c.from_residual.ensures.1 in
    let e = c.in_err-car.field-0.0 in
    err-is c.from_residual.result (λ e. IfSome (check_fault_of e) (IsFirstFault g.D.Digest.digest_of g.row.B c.args.file.now)) e (p.1 ∙ ap Err p.2)
    (first-of_file g.D.Digest.digest_of g.row.B c.args.file.now (check_fault_of e) c.in_err-car.ensures.read)

pub returns-in_err-commit-clause-fault : goal.returns-in_err-commit-clause-fault
returns-in_err-commit-clause-fault g c =
    let p = err_from_is_err_and c.from_residual-in_err-commit.result c.from_residual-in_err-commit.ensures.1 in
    let e = c.in_err-commit.field-0.0 in
    let sections = c.in_ok-places.ensures ∙ ap sections_of c.deref.ensures.value in
    err-is c.from_residual-in_err-commit.result (λ e. IfSome (check_fault_of e) (IsFirstFault g.D.Digest.digest_of g.row.B c.args.file.now)) e
    (p.1 ∙ ap Err p.2)
    (first-commit g.D.Digest.digest_of g.row.B c.args.file.now (car_of c.in_ok-car.car) c.to_cid.result c.in_ok-places.places c.to_cid.ensures
    sections c.in_ok-car.ensures.read (check_fault_of e) c.in_err-commit.ensures.read)

pub returns-in_err-pairs-clause-fault : goal.returns-in_err-pairs-clause-fault
returns-in_err-pairs-clause-fault g c =
    let p = err_from_is_err_and c.from_residual-in_err-pairs.result c.from_residual-in_err-pairs.ensures.1 in
    let e = c.in_err-pairs.field-0.0 in
    let sections = c.in_ok-places.ensures ∙ ap sections_of c.deref.ensures.value in
    err-is c.from_residual-in_err-pairs.result (λ e. IfSome (check_fault_of e) (IsFirstFault g.D.Digest.digest_of g.row.B c.args.file.now)) e
    (p.1 ∙ ap Err p.2)
    (first-tree g.D.Digest.digest_of g.row.B c.args.file.now (car_of c.in_ok-car.car) c.to_cid.result c.in_ok-places.places c.to_cid.ensures
    sections c.in_ok-car.ensures.read (commit_of c.in_ok-commit.commit) c.in_ok-commit.ensures.read c.to_cid-2.result c.to_cid-2.ensures
    (check_fault_of e) c.in_err-pairs.ensures.fault)

pub returns-in_err-lent-clause-fault : goal.returns-in_err-lent-clause-fault
returns-in_err-lent-clause-fault g c =
    let p = err_from_is_err_and c.from_residual-in_err-lent.result c.from_residual-in_err-lent.ensures.1 in
    let e = c.in_err-lent.field-0.0 in
    let sections = c.in_ok-places.ensures ∙ ap sections_of c.deref.ensures.value in
    err-is c.from_residual-in_err-lent.result (λ e. IfSome (check_fault_of e) (IsFirstFault g.D.Digest.digest_of g.row.B c.args.file.now)) e
    (p.1 ∙ ap Err p.2)
    (first-record g.D.Digest.digest_of g.row.B c.args.file.now (car_of c.in_ok-car.car) c.to_cid.result c.in_ok-places.places c.to_cid.ensures
    sections c.in_ok-car.ensures.read (commit_of c.in_ok-commit.commit) c.in_ok-commit.ensures.read c.to_cid-2.result c.to_cid-2.ensures
    (pairs_of c.in_ok-pairs.pairs.items) c.in_ok-pairs.ensures.tree (check_fault_of e)
    (Fails-same (check_fault_of e) _ _ (ap (λ ps. records_from c.in_ok-places.places 0 (pairs_of ps)) (sym c.deref-2.ensures.value)) c.in_err-lent.ensures))

pub tree_in-requires-clause-sections : goal.tree_in-requires-clause-sections
tree_in-requires-clause-sections g c =
    let e = ap length (c.in_ok-places.ensures ∙ ap sections_of c.deref.ensures.value) in
    let k = length-map c.in_ok-car.car.sections.items section_of in
    let n = c.len-sections.ensures in
    omega (arith, e, k, n)

pub with_records-requires : goal.with_records-requires
with_records-requires g c =
    as-many c.in_ok-places.places c.in_ok-pairs.pairs.items c.in_ok-lent.lent.items
    (ap (λ ps. records_from c.in_ok-places.places 0 (pairs_of ps)) (sym c.deref-2.ensures.value) ∙ c.in_ok-lent.ensures)

pub returns-clause-export : goal.returns-clause-export
returns-clause-export g c =
    let sections = c.in_ok-places.ensures ∙ ap sections_of c.deref.ensures.value in
    exported g.D.Digest.digest_of g.row.B c.args.file.now (car_of c.in_ok-car.car) c.to_cid.result c.in_ok-places.places c.to_cid.ensures
    sections c.in_ok-car.ensures.read (commit_of c.in_ok-commit.commit) c.in_ok-commit.ensures.read c.to_cid-2.result c.to_cid-2.ensures
    (pairs_of c.in_ok-pairs.pairs.items) c.in_ok-pairs.ensures.tree (lent c.in_ok-lent.lent.items)
    (ap (λ ps. records_from c.in_ok-places.places 0 (pairs_of ps)) (sym c.deref-2.ensures.value) ∙ c.in_ok-lent.ensures)
    c.in_ok-car.ensures.spelled _ c.in_ok-records.ensures.keyed c.in_ok-commit.ensures.spelled

pub returns-clause-cids : goal.returns-clause-cids
returns-clause-cids g c =
    let sections = c.in_ok-places.ensures ∙ ap sections_of c.deref.ensures.value in
    cids-are g.D.Digest.digest_of g.row.B c.args.file.now (car_of c.in_ok-car.car) c.to_cid.result c.in_ok-places.places c.to_cid.ensures
    sections c.in_ok-car.ensures.read (commit_of c.in_ok-commit.commit) c.in_ok-commit.ensures.read c.to_cid-2.result c.to_cid-2.ensures
    (pairs_of c.in_ok-pairs.pairs.items) c.in_ok-pairs.ensures.tree (lent c.in_ok-lent.lent.items)
    (ap (λ ps. records_from c.in_ok-places.places 0 (pairs_of ps)) (sym c.deref-2.ensures.value) ∙ c.in_ok-lent.ensures)
    c.in_ok-car.ensures.spelled _ c.in_ok-records.ensures.keyed _ c.in_ok-records.ensures.pairs

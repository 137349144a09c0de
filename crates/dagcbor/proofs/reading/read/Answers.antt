use Rattle.std.proofs.Common.{◌≡◌, Some, Ok, Err, sym, ap, subst, ◌∙◌, arith}
use Rattle.std.specs.Prelude.{IfErr, IsSome}
use Rattle.std.proofs.lemmas.Result.{err_from_is_err_and}
use Rattle.spec.specs.Reading.{IsBytes}
use Rattle.spec.specs.Head.{Trailing}
use Rattle.spec.specs.DagCbor.{value_at, read}
use Rattle.spec.proofs.DagCborTakes.{read_takes}
use Rattle.dagcbor.specs.Fault.{cbor_fault_of}
use Rattle.dagcbor.specs.View.{view}
use Rattle.dagcbor.specs.Refused.{HasNoValue}
use Rattle.dagcbor.proofs.Readings.{Fails-then}
use Rattle.dagcbor.proofs.Spelled.{refused}
use Rattle.dagcbor.proofs.reading.read.Goals as goal

pub returns-clause-spelled : goal.returns-clause-spelled
unfolding read
returns-clause-spelled g c =
    let found : read c.args.bytes.now ≡ Ok (view c.in_ok-value.value) = grind arith in
    let fits : IsBytes c.args.bytes.now = λ i. omega (arith, c.type_inv.bytes i) in
    (read_takes c.args.bytes.now (view c.in_ok-value.value) fits found).0

pub returns-clause-lawful : goal.returns-clause-lawful
unfolding read
returns-clause-lawful g c =
    let found : read c.args.bytes.now ≡ Ok (view c.in_ok-value.value) = grind arith in
    let fits : IsBytes c.args.bytes.now = λ i. omega (arith, c.type_inv.bytes i) in
    (read_takes c.args.bytes.now (view c.in_ok-value.value) fits found).1

pub returns-in_err-value-clause-refused : goal.returns-in_err-value-clause-refused
unfolding read
returns-in_err-value-clause-refused g c =
    let p = err_from_is_err_and c.from_residual.result c.from_residual.ensures.1 in
    let e = c.in_err-value.field-0.0 in
    subst (λ r. IfErr r (λ f. IsSome (cbor_fault_of f) → HasNoValue c.args.bytes.now)) (sym (p.1 ∙ ap Err p.2))
    (refused (cbor_fault_of e) c.args.bytes.now (Fails-then (cbor_fault_of e) (value_at 64 c.args.bytes.now) _ c.in_err-value.ensures))

pub returns-then-not-is_empty-clause-refused : goal.returns-then-not-is_empty-clause-refused
unfolding read
returns-then-not-is_empty-clause-refused g c =
    let fails : read c.args.bytes.now ≡ Err Trailing = grind arith in
    refused (Some Trailing) c.args.bytes.now fails

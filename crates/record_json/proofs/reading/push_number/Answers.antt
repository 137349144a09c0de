use Rattle.std.proofs.Common.{◌≡◌, ◌++◌, Err, ap, ◌∙◌}
use mir.Syntax.{w64}
use mir.Val.{to_z, of_z}
use Rattle.std.proofs.lemmas.Int.{to_z-of_z}
use Rattle.std.proofs.lemmas.Result.{err_from_is_err_and}
use Rattle.spec.specs.DagCbor.{Integer, spelling}
use Rattle.record_json.proofs.Pushes.{Puts-fails}
use Rattle.record_json.proofs.Records.{integer_of-fits}
use Rattle.record_json.proofs.reading.push_number.Goals as goal

pub returns-in_err-integer : goal.returns-in_err-integer
returns-in_err-integer g c =
    let p = err_from_is_err_and c.from_residual.result c.from_residual.ensures.1 in
    Puts-fails c.from_residual.result c.in_err-integer.field-0.0 _ _ _ (p.1 ∙ ap Err p.2) c.in_err-integer.ensures

pub returns : goal.returns
returns g c =
    let z = c.in_ok-integer.field-0 in
    let back : to_z w64 (of_z w64 z) ≡ z = to_z-of_z w64 z (integer_of-fits c.args.text.now z c.in_ok-integer.ensures) in
    (Integer z, c.in_ok-integer.ensures, c.in_ok-push_integer.ensures ∙ ap (λ y. c.args.out.now.items ++ spelling (Integer y)) back)

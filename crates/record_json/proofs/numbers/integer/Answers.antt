use Rattle.std.proofs.Common.{◌≡◌, true, false, Ok, sym, ap, subst, ◌∙◌, arith}
use mir.Syntax.{w64}
use mir.Val.{SFits, to_z, of_z}
use Rattle.std.proofs.lemmas.Int.{to_z-of_z}
use Rattle.spec.specs.DagCbor.{Integer}
use Rattle.record_json.specs.Form.{is_safe}
use Rattle.record_json.specs.Reading.{is_numeral, without_minus}
use Rattle.record_json.proofs.Numerals.{read_digits, integer_of-no_digits, integer_of-unsafe, integer_of-long}
use Rattle.record_json.proofs.numbers.integer.Goals as goal

pub returns-then-not-is_numeral : goal.returns-then-not-is_numeral
returns-then-not-is_numeral c =
    let same : c.is_numeral.result ≡ is_numeral (without_minus c.args.text.now) = c.is_numeral.ensures ∙ ap is_numeral (c.digits.ensures ∙ ap without_minus c.as_bytes.ensures.value) in
    let none : c.is_numeral.result ≡ false = grind arith in
    integer_of-no_digits c.args.text.now (sym same ∙ none)

pub returns-in-Ok : goal.returns-in-Ok
returns-in-Ok c =
    let z = c.in-Ok.z in
    let p = c.in-Ok.ensures.value.0 in
    let same : c.is_numeral.result ≡ is_numeral (without_minus c.args.text.now) = c.is_numeral.ensures ∙ ap is_numeral (c.digits.ensures ∙ ap without_minus c.as_bytes.ensures.value) in
    let some : c.is_numeral.result ≡ true = grind arith in
    let back : to_z w64 (of_z w64 z) ≡ z = to_z-of_z w64 z (subst (SFits w64) (sym p.1) p.0.1) in
    let safe : is_safe z ≡ true = cc in
    read_digits c.args.text.now z (sym same ∙ some) (sym p.1) safe ∙ ap (λ x. Ok (Integer x)) (sym back)

pub returns-in_default : goal.returns-in_default
returns-in_default c =
    let z = c.in-Ok.z in
    let p = c.in-Ok.ensures.value.0 in
    let same : c.is_numeral.result ≡ is_numeral (without_minus c.args.text.now) = c.is_numeral.ensures ∙ ap is_numeral (c.digits.ensures ∙ ap without_minus c.as_bytes.ensures.value) in
    let some : c.is_numeral.result ≡ true = grind arith in
    let back : to_z w64 (of_z w64 z) ≡ z = to_z-of_z w64 z (subst (SFits w64) (sym p.1) p.0.1) in
    let unsafe : is_safe z ≡ false = cc in
    integer_of-unsafe c.args.text.now z (sym same ∙ some) (sym p.1) unsafe

pub returns-in_default-2 : goal.returns-in_default-2
returns-in_default-2 c =
    let same : c.is_numeral.result ≡ is_numeral (without_minus c.args.text.now) = c.is_numeral.ensures ∙ ap is_numeral (c.digits.ensures ∙ ap without_minus c.as_bytes.ensures.value) in
    let some : c.is_numeral.result ≡ true = grind arith in
    integer_of-long c.args.text.now (sym same ∙ some) (λ p. c.in_default.ensures.value.0 p)

use Rattle.std.proofs.Common.{◌≡◌, Ok, sym, ap, subst, ◌∙◌}
use Rattle.std.specs.Prelude.{IfErr, IfSome}
use Rattle.spec.specs.Reading.{Gives}
use Rattle.batches.specs.Values.{stamp_of}
use Rattle.repository_commands.specs.Faults.{text_fault_of}
use Rattle.repository_commands.specs.Puts.{given_in}
use Rattle.repository_commands.specs.Refusals.{IsRefusedIn}
use Rattle.repository_commands.specs.Texts.{signed_car_text}
use Rattle.repository_commands.specs.Views.{given_of}
use Rattle.console.proofs.Known.{always_known}
use Rattle.repository_commands.proofs.Making.{made_by_fault, made_of, passed, signing_checked, signing_unchecked}
use Rattle.repository_commands.proofs.signing.signed_car_made.Goals as goal

pub returns-in_err-signature-clause-made : goal.returns-in_err-signature-clause-made
returns-in_err-signature-clause-made g c =
    let digest = g.D.Digest.digest_of in
    let stamp = stamp_of c.args.stamp.now in
    let word = c.args.sig.now in
    let f = c.in_err-signature.field-0.0 in
    made_by_fault (λ v. v.items) (signed_car_text digest c.args.form stamp word) (g.R.Read.remaining c.args.input.now) c.from_residual.result f c.from_residual.ensures.1
    (signing_unchecked digest c.args.form stamp word (text_fault_of f) c.in_err-signature.ensures.check)

pub returns-clause-made : goal.returns-clause-made
returns-clause-made g c =
    let digest = g.D.Digest.digest_of in
    let stamp = stamp_of c.args.stamp.now in
    let word = c.args.sig.now in
    let given = given_of c.in_ok-puts.puts in
    made_of (λ v. v.items) (signed_car_text digest c.args.form stamp word) (g.R.Read.remaining c.args.input.now) c.signed_car_of_puts.result (λ xs. given ≡ given_in c.args.form xs) c.in_ok-puts.ensures
    (λ xs e. subst (Gives (λ v. v.items) text_fault_of c.signed_car_of_puts.result)
    (sym (signing_checked digest c.args.form stamp word c.deref.result.now given xs (c.in_ok-signature.ensures.check ∙ ap Ok (sym c.deref.ensures.value)) e)) c.signed_car_of_puts.ensures.file)

pub returns-in_err-signature-clause-refused : goal.returns-in_err-signature-clause-refused
returns-in_err-signature-clause-refused g c =
    let read = g.R.Read.remaining c.args.input.now in
    passed (λ r. IfErr r (λ e. IfSome read (λ xs. IsRefusedIn g.D.Digest.digest_of c.args.form (stamp_of c.args.stamp.now) xs e))) c.from_residual.result
    c.in_err-signature.field-0.0 c.from_residual.ensures.1 (always_known _ read (λ xs. c.in_err-signature.ensures.refused c.args.form xs))

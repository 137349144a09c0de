use Rattle.std.proofs.Common.{◌≡◌, sym, subst}
use Rattle.spec.specs.Reading.{Gives}
use Rattle.batches.specs.Values.{stamp_of}
use Rattle.repository_commands.specs.Faults.{text_fault_of}
use Rattle.repository_commands.specs.Puts.{given_in}
use Rattle.repository_commands.specs.Texts.{prove_text}
use Rattle.repository_commands.specs.Views.{given_of}
use Rattle.repository_commands.proofs.Making.{made_by_fault, made_of, prove_unchecked, prove_checked}
use Rattle.repository_commands.proofs.proving.proof_made.Goals as goal

pub returns-in_err-check_key-clause-made : goal.returns-in_err-check_key-clause-made
returns-in_err-check_key-clause-made g c =
    let digest = g.D.Digest.digest_of in
    let stamp = stamp_of c.args.stamp.now in
    let key = c.args.key.now in
    let f = c.in_err-check_key.field-0.0 in
    made_by_fault (λ v. v.items) (prove_text digest c.args.form stamp key) (g.R.Read.remaining c.args.input.now) c.from_residual.result f c.from_residual.ensures.1
    (prove_unchecked digest c.args.form stamp key (text_fault_of f) c.in_err-check_key.ensures.check)

pub returns-clause-made : goal.returns-clause-made
returns-clause-made g c =
    let digest = g.D.Digest.digest_of in
    let stamp = stamp_of c.args.stamp.now in
    let key = c.args.key.now in
    let given = given_of c.in_ok-puts.puts in
    made_of (λ v. v.items) (prove_text digest c.args.form stamp key) (g.R.Read.remaining c.args.input.now) c.proof_of_puts.result (λ xs. given ≡ given_in c.args.form xs) c.in_ok-puts.ensures
    (λ xs e. subst (Gives (λ v. v.items) text_fault_of c.proof_of_puts.result) (sym (prove_checked digest c.args.form stamp key given xs c.in_ok-check_key.ensures.check e)) c.proof_of_puts.ensures.text)

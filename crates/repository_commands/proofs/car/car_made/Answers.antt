use Rattle.std.proofs.Common.{◌≡◌, sym, subst}
use Rattle.std.specs.Prelude.{IfErr, IfSome}
use Rattle.spec.specs.Reading.{Gives}
use Rattle.batches.specs.Values.{stamp_of}
use Rattle.repository_commands.specs.Faults.{text_fault_of}
use Rattle.repository_commands.specs.Puts.{given_in}
use Rattle.repository_commands.specs.Refusals.{IsRefusedIn}
use Rattle.repository_commands.specs.Texts.{car_text}
use Rattle.repository_commands.specs.Views.{given_of}
use Rattle.console.proofs.Known.{always_known}
use Rattle.repository_commands.proofs.Making.{made_by_fault, made_of, car_unchecked, car_checked, passed}
use Rattle.repository_commands.proofs.car.car_made.Goals as goal

pub returns-in_err-check_stamp-clause-made : goal.returns-in_err-check_stamp-clause-made
returns-in_err-check_stamp-clause-made g c =
    let digest = g.D.Digest.digest_of in
    let stamp = stamp_of c.args.stamp.now in
    let f = c.in_err-check_stamp.field-0.0 in
    made_by_fault (λ v. v.items) (car_text digest c.args.form stamp) (g.R.Read.remaining c.args.input.now) c.from_residual.result f c.from_residual.ensures.1
    (car_unchecked digest c.args.form stamp (text_fault_of f) c.in_err-check_stamp.ensures.check)

pub returns-clause-made : goal.returns-clause-made
returns-clause-made g c =
    let digest = g.D.Digest.digest_of in
    let stamp = stamp_of c.args.stamp.now in
    let given = given_of c.in_ok-puts.puts in
    made_of (λ v. v.items) (car_text digest c.args.form stamp) (g.R.Read.remaining c.args.input.now) c.car_of_puts.result (λ xs. given ≡ given_in c.args.form xs) c.in_ok-puts.ensures
    (λ xs e. subst (Gives (λ v. v.items) text_fault_of c.car_of_puts.result) (sym (car_checked digest c.args.form stamp given xs c.in_ok-check_stamp.ensures.check e)) c.car_of_puts.ensures.file)

pub returns-in_err-check_stamp-clause-refused : goal.returns-in_err-check_stamp-clause-refused
returns-in_err-check_stamp-clause-refused g c =
    let read = g.R.Read.remaining c.args.input.now in
    passed (λ r. IfErr r (λ e. IfSome read (λ xs. IsRefusedIn g.D.Digest.digest_of c.args.form (stamp_of c.args.stamp.now) xs e))) c.from_residual.result
    c.in_err-check_stamp.field-0.0 c.from_residual.ensures.1 (always_known _ read (λ xs. c.in_err-check_stamp.ensures.refused c.args.form xs))

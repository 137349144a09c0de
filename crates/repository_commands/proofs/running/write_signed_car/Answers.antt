use Rattle.std.proofs.Common.{subst, sym}
use Rattle.std.specs.Prelude.{IsErr}
use Rattle.repository_commands.specs.Commands.{stamp_of_words}
use Rattle.repository_commands.specs.Outcomes.{HasReason, IsOutcome}
use Rattle.repository_commands.specs.Refusals.{IsRefusedIn}
use Rattle.repository_commands.specs.Texts.{signed_car_text, signing_check}
use Rattle.repository_commands.proofs.Endings.{without_memory}
use Rattle.repository_commands.proofs.running.write_signed_car.Goals as goal

pub returns-in-Ok-clause-outcome : goal.returns-in-Ok-clause-outcome
returns-in-Ok-clause-outcome g c =
    let read = g.R.Read.remaining c.args.input.now in
    let before = g.W.Write.contents c.args.out.now in
    let after = g.W.Write.contents c.signed_car_text.new.out in
    let digest = g.D.Digest.digest_of in
    let own = stamp_of_words c.args.did.now c.args.rev.now in
    subst (λ sig. IsOutcome (signed_car_text digest c.args.form own sig) read before after c.signed_car_text.result) c.as_bytes.ensures.value
    (subst (λ stamp. IsOutcome (signed_car_text digest c.args.form stamp c.as_bytes.result.now) read before after c.signed_car_text.result) c.in-Ok.ensures c.signed_car_text.ensures.outcome)

pub returns-in-Ok-clause-reason : goal.returns-in-Ok-clause-reason
returns-in-Ok-clause-reason g c =
    let digest = g.D.Digest.digest_of in
    let read = g.R.Read.remaining c.args.input.now in
    subst (λ stamp. HasReason (IsRefusedIn digest c.args.form stamp) read c.signed_car_text.result) c.in-Ok.ensures c.signed_car_text.ensures.refused

pub returns-in-Ok-clause-told : goal.returns-in-Ok-clause-told
returns-in-Ok-clause-told g c faulty =
    let own = stamp_of_words c.args.did.now c.args.rev.now in
    c.signed_car_text.ensures.told (subst (λ stamp. IsErr (signing_check stamp c.as_bytes.result.now)) (sym c.in-Ok.ensures)
    (subst (λ sig. IsErr (signing_check own sig)) (sym c.as_bytes.ensures.value) faulty))

pub returns-in-Ok-clause-unread : goal.returns-in-Ok-clause-unread
returns-in-Ok-clause-unread g c faulty =
    let own = stamp_of_words c.args.did.now c.args.rev.now in
    c.signed_car_text.ensures.unread (subst (λ stamp. IsErr (signing_check stamp c.as_bytes.result.now)) (sym c.in-Ok.ensures)
    (subst (λ sig. IsErr (signing_check own sig)) (sym c.as_bytes.ensures.value) faulty))

pub returns-in-Err-clause-outcome : goal.returns-in-Err-clause-outcome
returns-in-Err-clause-outcome g c =
    without_memory (signed_car_text g.D.Digest.digest_of c.args.form (stamp_of_words c.args.did.now c.args.rev.now) c.args.sig.now) (g.R.Read.remaining c.args.input.now)
    (g.W.Write.contents c.args.out.now)

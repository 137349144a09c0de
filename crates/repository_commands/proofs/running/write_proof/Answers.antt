use Rattle.std.proofs.Common.{subst}
use Rattle.repository_commands.specs.Commands.{own_stamp}
use Rattle.repository_commands.specs.Outcomes.{HasReason, IsOutcome}
use Rattle.repository_commands.specs.Refusals.{IsRefusedIn}
use Rattle.repository_commands.specs.Texts.{prove_text}
use Rattle.repository_commands.proofs.running.write_proof.Goals as goal

pub returns-in-Ok-clause-outcome : goal.returns-in-Ok-clause-outcome
returns-in-Ok-clause-outcome g c =
    let read = g.R.Read.remaining c.args.input.now in
    let before = g.W.Write.contents c.args.out.now in
    let after = g.W.Write.contents c.prove_text.new.out in
    let digest = g.D.Digest.digest_of in
    subst (λ key. IsOutcome (prove_text digest c.args.form own_stamp key) read before after c.prove_text.result) c.as_bytes.ensures.value
    (subst (λ stamp. IsOutcome (prove_text digest c.args.form stamp c.as_bytes.result.now) read before after c.prove_text.result) c.in-Ok.ensures c.prove_text.ensures.outcome)

pub returns-in-Ok-clause-reason : goal.returns-in-Ok-clause-reason
returns-in-Ok-clause-reason g c =
    let digest = g.D.Digest.digest_of in
    let read = g.R.Read.remaining c.args.input.now in
    subst (λ stamp. HasReason (IsRefusedIn digest c.args.form stamp) read c.prove_text.result) c.in-Ok.ensures c.prove_text.ensures.refused

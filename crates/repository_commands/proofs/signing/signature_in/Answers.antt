use Rattle.std.specs.Prelude.{IfErr}
use Rattle.batches.specs.Values.{stamp_of}
use Rattle.repository_commands.specs.Refusals.{IsRefusedIn}
use Rattle.repository_commands.proofs.Making.{passed}
use Rattle.repository_commands.proofs.signing.signature_in.Goals as goal

pub returns-in_err-check_stamp-clause-refused : goal.returns-in_err-check_stamp-clause-refused
returns-in_err-check_stamp-clause-refused g c form xs =
    passed (λ r. IfErr r (λ e. IsRefusedIn g.D.Digest.digest_of form (stamp_of c.args.stamp.now) xs e)) c.from_residual.result
    c.in_err-check_stamp.field-0.0 c.from_residual.ensures.1 (c.in_err-check_stamp.ensures.refused form xs)

use Rattle.std.specs.Prelude.{IfSome}
use Rattle.batches.specs.Values.{stamp_of}
use Rattle.repository_commands.specs.Refusals.{IsRefusedIn}
use Rattle.repository_commands.specs.Texts.{signed_car_text}
use Rattle.repository_commands.proofs.Endings.{ended_on, fault_on, outcome_of}
use Rattle.repository_commands.proofs.signing.signed_car_text.Goals as goal

pub returns-clause-outcome : goal.returns-clause-outcome
returns-clause-outcome g c =
    outcome_of (λ bytes. bytes.items) (signed_car_text g.D.Digest.digest_of c.args.form (stamp_of c.args.stamp.now) c.args.sig.now) (g.R.Read.remaining c.args.input.now) _ _ c.signed_car_made.result c.write_made.result c.signed_car_made.ensures.made c.write_made.ensures

pub returns-clause-refused : goal.returns-clause-refused
returns-clause-refused g c =
    fault_on (λ bytes. bytes.items) (λ e. IfSome (g.R.Read.remaining c.args.input.now) (λ xs. IsRefusedIn g.D.Digest.digest_of c.args.form (stamp_of c.args.stamp.now) xs e)) _ _ c.signed_car_made.result c.write_made.result c.signed_car_made.ensures.refused c.write_made.ensures

pub returns-clause-told : goal.returns-clause-told
returns-clause-told g c faulty =
    ended_on (λ bytes. bytes.items) _ _ c.signed_car_made.result c.write_made.result (c.signed_car_made.ensures.told faulty) c.write_made.ensures

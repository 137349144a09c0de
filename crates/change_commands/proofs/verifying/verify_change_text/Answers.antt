use Rattle.std.specs.Prelude.{IfSome}
use Rattle.repository_commands.proofs.Endings.{fault_on, outcome_of, told_on}
use Rattle.change_commands.specs.Texts.{verify_change_text, IsUnshown}
use Rattle.change_commands.proofs.verifying.verify_change_text.Goals as goal

pub returns-clause-outcome : goal.returns-clause-outcome
returns-clause-outcome g c =
    outcome_of (λ bytes. bytes.items) (verify_change_text g.D.Digest.digest_of c.args.direction c.args.before.now c.args.after.now) (g.R.Read.remaining c.args.input.now) _ _
    c.verdict_made.result c.write_made.result c.verdict_made.ensures.made c.write_made.ensures

pub returns-clause-unshown : goal.returns-clause-unshown
returns-clause-unshown g c =
    fault_on (λ bytes. bytes.items) (λ e. IfSome (g.R.Read.remaining c.args.input.now) (λ xs. IsUnshown g.D.Digest.digest_of c.args.direction xs e)) _ _ c.verdict_made.result
    c.write_made.result c.verdict_made.ensures.unshown c.write_made.ensures

pub returns-clause-told : goal.returns-clause-told
returns-clause-told g c faulty =
    told_on (λ bytes. bytes.items) _ _ c.verdict_made.result c.write_made.result (c.verdict_made.ensures.told faulty) c.write_made.ensures

use Rattle.std.specs.Prelude.{IfSome}
use Rattle.repository_commands.proofs.Endings.{fault_on, outcome_of}
use Rattle.change_commands.specs.Texts.{prove_change_text, IsUnproved}
use Rattle.change_commands.proofs.proving.prove_change_text.Goals as goal

pub returns-clause-outcome : goal.returns-clause-outcome
returns-clause-outcome g c =
    outcome_of (λ bytes. bytes.items) (prove_change_text g.D.Digest.digest_of c.args.direction c.args.form) (g.R.Read.remaining c.args.input.now) _ _ c.change_made.result c.write_made.result
    c.change_made.ensures.made c.write_made.ensures

pub returns-clause-refused : goal.returns-clause-refused
returns-clause-refused g c =
    fault_on (λ bytes. bytes.items) (λ e. IfSome (g.R.Read.remaining c.args.input.now) (λ xs. IsUnproved g.D.Digest.digest_of c.args.form xs e)) _ _ c.change_made.result
    c.write_made.result c.change_made.ensures.refused c.write_made.ensures

use Rattle.std.specs.Prelude.{IfSome}
use Rattle.event_commands.proofs.Endings.{ended_on, fault_on, outcome_of}
use Rattle.event_commands.specs.Refusals.{IsUntold}
use Rattle.event_commands.specs.Texts.{event_text}
use Rattle.event_commands.specs.Views.{words_of}
use Rattle.event_commands.proofs.writing.event_text.Goals as goal

pub returns-clause-outcome : goal.returns-clause-outcome
returns-clause-outcome g c =
    outcome_of (λ bytes. bytes.items) (event_text g.D.Digest.digest_of c.args.subject c.args.form (words_of c.args.words.now)) (g.R.Read.remaining c.args.input.now) _ _ c.event_made.result
    c.write_made.result c.event_made.ensures.made c.write_made.ensures

pub returns-clause-told : goal.returns-clause-told
returns-clause-told g c faulty =
    ended_on (λ bytes. bytes.items) _ _ c.event_made.result c.write_made.result (c.event_made.ensures.told faulty) c.write_made.ensures

pub returns-clause-refused : goal.returns-clause-refused
returns-clause-refused g c =
    fault_on (λ bytes. bytes.items) (λ e. IfSome (g.R.Read.remaining c.args.input.now) (λ xs. IsUntold g.D.Digest.digest_of c.args.form (words_of c.args.words.now) xs e)) _ _
    c.event_made.result c.write_made.result c.event_made.ensures.refused c.write_made.ensures

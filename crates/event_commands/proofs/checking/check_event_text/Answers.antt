use Rattle.event_commands.proofs.Endings.{ended_on, outcome_of, reason_on}
use Rattle.event_commands.specs.Refusals.{IsOfNoLine}
use Rattle.event_commands.specs.Texts.{check_event_text}
use Rattle.event_commands.proofs.checking.check_event_text.Goals as goal

pub returns-clause-outcome : goal.returns-clause-outcome
returns-clause-outcome g c =
    outcome_of (λ bytes. bytes.items) (check_event_text g.D.Digest.digest_of c.args.form c.args.previous.now) (g.R.Read.remaining c.args.input.now) _ _ c.lines_made.result c.write_made.result
    c.lines_made.ensures.made c.write_made.ensures

pub returns-clause-told : goal.returns-clause-told
returns-clause-told g c faulty =
    ended_on (λ bytes. bytes.items) _ _ c.lines_made.result c.write_made.result (c.lines_made.ensures.told faulty) c.write_made.ensures

pub returns-clause-lineless : goal.returns-clause-lineless
returns-clause-lineless g c =
    reason_on (λ bytes. bytes.items) (λ e. IsOfNoLine e) (g.R.Read.remaining c.args.input.now) _ _ c.lines_made.result c.write_made.result c.lines_made.ensures.lineless
    c.write_made.ensures

use Rattle.std.proofs.Common.{[], sym, ap, ◌∙◌}
use Rattle.event_laws.specs.Verdict.{doubled_after}
use Rattle.event_format.specs.Views.{event_of}
use Rattle.commit_events.proofs.Steps.{keyed-read}
use Rattle.commit_events.proofs.checking.single_event.Goals as goal

pub returns-clause-keyed : goal.returns-clause-keyed
returns-clause-keyed g c =
    keyed-read c.args.message.now (event_of c.in_ok-event.event) c.in_ok-event.ensures.read
    (sym (ap (doubled_after [] 0) c.deref.ensures.value) ∙ sym c.doubled.ensures ∙ c.in-None.is)

use Rattle.commit_events.specs.Views.{checked_of, event_fault_of}
use Rattle.commit_events.proofs.Steps.{verdict-is, verdict-true}
use Rattle.commit_events.proofs.checking.check_commit.Goals as goal

pub returns-clause-verdict : goal.returns-clause-verdict
returns-clause-verdict g c =
    verdict-is checked_of event_fault_of g.D.Digest.digest_of g.row.B c.args.previous c.args.message.now c.judged.result
    c.judged.ensures.verdict

pub returns-clause-taken : goal.returns-clause-taken
returns-clause-taken g c =
    verdict-true checked_of event_fault_of g.D.Digest.digest_of g.row.B g.met.D.Digest.digest_len c.args.previous
    c.args.message.now c.judged.result c.judged.ensures.verdict

use Rattle.event_writing.specs.Views.{told_of}
use Rattle.event_writing_laws.specs.Messages.{batch_message}
use Rattle.event_commands.proofs.writing.told_event.Goals as goal

pub returns-clause-message : goal.returns-clause-message
returns-clause-message g c =
    c.message_or.ensures.message (batch_message g.D.Digest.digest_of 2 c.args.core.now c.args.before c.args.changes.now (told_of c.args.told.now))
    c.commit_event.ensures.message

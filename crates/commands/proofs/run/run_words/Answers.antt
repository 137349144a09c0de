use Rattle.std.proofs.Common.{rules}
use Rattle.clap.specs.Walk.{texts}
use Rattle.clap.specs.Words.{fault_of}
use Rattle.commands.specs.CommandLine.{msthost}
use Rattle.commands.proofs.Asking.{ended}
use Rattle.commands.proofs.run.run_words.Goals as goal

pub returns-in-Err-clause-unasked : goal.returns-in-Err-clause-unasked
returns-in-Err-clause-unasked g c = ended (fault_of msthost (texts c.args.words.now)) c.in-Err.error c.show.result
    c.in-Err.ensures.refused c.show.ensures.memory c.show.ensures.other

pub returns-in-Err-clause-unread : goal.returns-in-Err-clause-unread
returns-in-Err-clause-unread g c = search rules

pub returns-in-Ok-clause-unasked : goal.returns-in-Ok-clause-unasked
returns-in-Ok-clause-unasked g c = search rules

use Rattle.commands.proofs.Asking.{help_ended}
use Rattle.commands.proofs.run.show_help.Goals as goal

pub returns-clause-status : goal.returns-clause-status
returns-clause-status g c = help_ended c.help_of-help.result c.show.result c.help_of-help.ensures c.show.ensures.memory c.show.ensures.other

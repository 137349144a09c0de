use Rattle.std.proofs.Common.{rules}
use Rattle.run_command.proofs.settings.Settings.new.Goals as goal

pub returns-then-repos-lt1-clause-valid : goal.returns-then-repos-lt1-clause-valid
returns-then-repos-lt1-clause-valid c = search rules

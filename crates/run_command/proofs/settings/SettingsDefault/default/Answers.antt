use Rattle.std.proofs.Common.{rules}
use Rattle.run_command.proofs.settings.SettingsDefault.default.Goals as goal

pub returns : goal.returns
returns c = search rules

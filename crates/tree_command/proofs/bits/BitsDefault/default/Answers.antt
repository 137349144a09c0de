use Rattle.std.proofs.Common.{rules}
use Rattle.tree_command.proofs.bits.BitsDefault.default.Goals as goal

pub returns : goal.returns
returns c = search rules

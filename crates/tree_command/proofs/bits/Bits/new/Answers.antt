use Rattle.std.proofs.Common.{rules}
use Rattle.tree_command.proofs.bits.Bits.new.Goals as goal

pub returns-then-number-lt1-clause-valid : goal.returns-then-number-lt1-clause-valid
returns-then-number-lt1-clause-valid c = search rules

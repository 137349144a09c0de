use Rattle.std.proofs.Common.{rules}
use Rattle.node.proofs.common.is_key.Goals as goal

pub returns-then-not-is_empty : goal.returns-then-not-is_empty
returns-then-not-is_empty c = search rules

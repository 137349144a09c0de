use Rattle.std.proofs.Common.{rules}
use Rattle.block.proofs.block.is_node.Goals as goal

pub returns-in-Err : goal.returns-in-Err
returns-in-Err c = search rules

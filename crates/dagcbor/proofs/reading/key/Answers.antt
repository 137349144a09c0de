use Rattle.std.proofs.Common.{rules}
use Rattle.dagcbor.proofs.reading.key.Goals as goal

pub returns-then-is_next_key : goal.returns-then-is_next_key
returns-then-is_next_key c = search rules

use Rattle.std.proofs.Common.{rules}
use Rattle.dagcbor.proofs.keys.is_next_key.Goals as goal

pub returns-in-Some : goal.returns-in-Some
returns-in-Some c = search rules

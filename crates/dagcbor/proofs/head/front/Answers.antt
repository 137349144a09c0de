use Rattle.std.proofs.Common.{rules}
use Rattle.dagcbor.proofs.head.front.Goals as goal

pub returns-clause-read : goal.returns-clause-read
returns-clause-read c = search rules

use Rattle.std.proofs.Common.{rules}
use Rattle.dagcbor.proofs.writing.push_head.Goals as goal

pub returns-then-n-lt256-clause-ok : goal.returns-then-n-lt256-clause-ok
returns-then-n-lt256-clause-ok g c = search rules

use Rattle.std.proofs.Common.{rules}
use Rattle.repository_check.proofs.tree.is_found.Goals as goal

pub returns-then-eq : goal.returns-then-eq
returns-then-eq g c = search rules

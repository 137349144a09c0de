use Rattle.std.proofs.Common.{rules}
use Rattle.repo.proofs.cores.Core.accepted.Goals as goal

pub returns-clause-value : goal.returns-clause-value
returns-clause-value g c = search rules

use Rattle.std.proofs.Common.{rules}
use Rattle.host.proofs.opening.tested.Goals as goal

pub returns-then-limits-lt1-3-clause-fault : goal.returns-then-limits-lt1-3-clause-fault
returns-then-limits-lt1-3-clause-fault c = search rules

pub returns-then-limits-lt1-4-clause-fault : goal.returns-then-limits-lt1-4-clause-fault
returns-then-limits-lt1-4-clause-fault c = search rules

pub returns-clause-lawful : goal.returns-clause-lawful
returns-clause-lawful c = search rules

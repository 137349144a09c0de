use Rattle.std.proofs.Common.{rules}
use Rattle.closing.proofs.block_counts.listed.Goals as goal

pub returns-clause-items : goal.returns-clause-items
returns-clause-items g c = search rules

pub returns-clause-ascending : goal.returns-clause-ascending
returns-clause-ascending g c = search rules

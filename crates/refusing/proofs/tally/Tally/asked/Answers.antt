use Rattle.std.proofs.Common.{rules}
use Rattle.refusing.proofs.tally.Tally.asked.Goals as goal

pub returns-in_default-clause-nearer : goal.returns-in_default-clause-nearer
returns-in_default-clause-nearer c = search rules

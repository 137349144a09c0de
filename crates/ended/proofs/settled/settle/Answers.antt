use Rattle.std.proofs.Common.{rules}
use Rattle.ended.proofs.settled.settle.Goals as goal

pub returns-clause-same : goal.returns-clause-same
returns-clause-same g c = search rules

pub returns-clause-feed : goal.returns-clause-feed
returns-clause-feed g c = search rules

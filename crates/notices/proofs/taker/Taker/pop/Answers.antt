use Rattle.std.proofs.Common.{rules}
use Rattle.notices.proofs.taker.Taker.pop.Goals as goal

pub returns-clause-received : goal.returns-clause-received
returns-clause-received g c = search rules

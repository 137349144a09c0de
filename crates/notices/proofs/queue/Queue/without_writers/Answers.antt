use Rattle.std.proofs.Common.{rules}
use Rattle.notices.proofs.Moves.{begins}
use Rattle.notices.proofs.queue.Queue.without_writers.Goals as goal

pub ruled-requires-clause-rule : goal.ruled-requires-clause-rule
ruled-requires-clause-rule g c = begins

pub returns-clause-room : goal.returns-clause-room
returns-clause-room g c = search rules

pub returns-clause-feed : goal.returns-clause-feed
returns-clause-feed g c = search rules

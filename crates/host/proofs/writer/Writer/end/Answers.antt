use Rattle.std.proofs.Common.{rules}
use Rattle.host.proofs.writer.Writer.end.Goals as goal

pub returns-clause-same : goal.returns-clause-same
returns-clause-same g c = search rules

use Rattle.std.proofs.Common.{rules}
use Rattle.export.proofs.sections.size_behind.Goals as goal

pub returns : goal.returns
returns c = search rules

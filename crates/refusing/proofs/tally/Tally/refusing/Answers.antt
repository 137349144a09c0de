use Rattle.std.proofs.Common.{rules}
use Rattle.refusing.proofs.tally.Tally.refusing.Goals as goal

pub returns : goal.returns
returns c = search rules

use Rattle.std.proofs.Common.{rules}
use Rattle.rows.proofs.entries.to_cid.Goals as goal

pub returns-in-Some : goal.returns-in-Some
returns-in-Some c = search rules

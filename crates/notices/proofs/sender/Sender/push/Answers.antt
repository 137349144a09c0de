use Rattle.std.proofs.Common.{rules}
use Rattle.notices.proofs.sender.Sender.push.Goals as goal

pub returns-in-Err-clause-refused : goal.returns-in-Err-clause-refused
returns-in-Err-clause-refused g c = search rules

use Rattle.std.proofs.Common.{rules}
use Rattle.batches.proofs.names.refusal_name.Goals as goal

pub returns-in-WritesFull : goal.returns-in-WritesFull
returns-in-WritesFull g c = search rules

use Rattle.std.proofs.Common.{rules}
use Rattle.console.proofs.hexadecimal.bytes_of_hex.Goals as goal

pub returns-then-is_empty : goal.returns-then-is_empty
returns-then-is_empty g c = search rules

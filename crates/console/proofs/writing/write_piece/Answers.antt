use Rattle.std.proofs.Common.{rules}
use Rattle.console.proofs.writing.write_piece.Goals as goal

pub returns : goal.returns
returns g c = search rules

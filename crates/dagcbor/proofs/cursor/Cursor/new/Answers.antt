use Rattle.std.proofs.Common.{rules}
use Rattle.dagcbor.proofs.cursor.Cursor.new.Goals as goal

pub returns-clause-left : goal.returns-clause-left
returns-clause-left c = search rules

pub returns-clause-place : goal.returns-clause-place
returns-clause-place c = search rules

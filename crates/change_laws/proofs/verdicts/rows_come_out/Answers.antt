use Rattle.change_laws.proofs.Rows.{rows}
use Rattle.change_laws.proofs.verdicts.rows_come_out.Goals as goal

pub returns : goal.returns
returns c = rows

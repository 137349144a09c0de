use Rattle.change_laws.proofs.Missing.{not_shown-is_true}
use Rattle.change_laws.proofs.verdicts.not_shown_is_true.Goals as goal

pub returns : goal.returns
returns c = not_shown-is_true

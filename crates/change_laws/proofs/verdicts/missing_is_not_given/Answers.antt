use Rattle.change_laws.proofs.Missing.{missing-is_missing}
use Rattle.change_laws.proofs.verdicts.missing_is_not_given.Goals as goal

pub returns : goal.returns
returns c = missing-is_missing

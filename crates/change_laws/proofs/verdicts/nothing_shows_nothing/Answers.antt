use Rattle.change_laws.proofs.Missing.{nothing-given}
use Rattle.change_laws.proofs.verdicts.nothing_shows_nothing.Goals as goal

pub returns : goal.returns
returns c = nothing-given

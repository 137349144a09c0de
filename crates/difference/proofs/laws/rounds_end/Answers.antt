use Rattle.difference.proofs.Rounds.{rounds-end-so}
use Rattle.difference.proofs.laws.rounds_end.Goals as goal

pub returns : goal.returns
returns c = rounds-end-so

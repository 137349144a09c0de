use Rattle.change_laws.proofs.Showing.{verdict-complete}
use Rattle.change_laws.proofs.verdicts.verdict_is_complete.Goals as goal

pub returns : goal.returns
returns c = verdict-complete

use Rattle.explain_command.specs.Explained.{explanation_of_common}
use Rattle.explain_command.proofs.text.push_common.Goals as goal

pub returns : goal.returns
unfolding explanation_of_common
returns c = c.push_all.ensures

use Rattle.explain_command.specs.Explained.{explanation_of_files}
use Rattle.explain_command.proofs.text.push_of_files.Goals as goal

pub returns : goal.returns
unfolding explanation_of_files
returns c = c.push_all.ensures

use Rattle.explain_command.specs.Explained.{explanation_of_messages}
use Rattle.explain_command.proofs.text.push_of_messages.Goals as goal

pub returns : goal.returns
unfolding explanation_of_messages
returns c = c.push_all.ensures

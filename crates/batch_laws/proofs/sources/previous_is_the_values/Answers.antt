use Rattle.batch_laws.proofs.Previous.{previous-is_values}
use Rattle.batch_laws.proofs.sources.previous_is_the_values.Goals as goal

pub returns : goal.returns
returns c = previous-is_values

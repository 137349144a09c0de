use Rattle.spec.proofs.StateLaws.{fresh-state}
use Rattle.spec.proofs.laws.states.fresh_has_the_empty_node.Goals as goal

pub returns : goal.returns
returns c = fresh-state

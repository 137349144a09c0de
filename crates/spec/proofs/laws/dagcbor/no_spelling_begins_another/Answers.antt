use Rattle.spec.proofs.DagCborLaws.{spelling-one_form}
use Rattle.spec.proofs.laws.dagcbor.no_spelling_begins_another.Goals as goal

pub returns : goal.returns
returns c = spelling-one_form

use Rattle.edit_laws.proofs.LookupTheorems.{step-is_place}
use Rattle.edit_laws.proofs.lookups.step_is_the_place.Goals as goal

pub returns : goal.returns
returns c = step-is_place

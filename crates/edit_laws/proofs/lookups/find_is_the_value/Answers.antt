use Rattle.edit_laws.proofs.LookupTheorems.{find-is_value}
use Rattle.edit_laws.proofs.lookups.find_is_the_value.Goals as goal

pub returns : goal.returns
returns c = find-is_value

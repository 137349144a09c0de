use Rattle.edit_laws.proofs.LookupTheorems.{path-bound}
use Rattle.edit_laws.proofs.lookups.path_is_bounded.Goals as goal

pub returns : goal.returns
returns c = path-bound

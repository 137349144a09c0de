use Rattle.edit_laws.proofs.LookupTheorems.{lookup-over_source}
use Rattle.edit_laws.proofs.lookups.lookup_over_a_source.Goals as goal

pub returns : goal.returns
returns c = lookup-over_source

use Rattle.edit_laws.proofs.LookupTheorems.{top-has_layer}
use Rattle.edit_laws.proofs.lookups.top_has_a_layer_of_the_digest.Goals as goal

pub returns : goal.returns
returns c = top-has_layer

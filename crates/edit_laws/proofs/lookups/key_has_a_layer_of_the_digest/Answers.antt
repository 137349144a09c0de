use Rattle.edit_laws.proofs.LookupTheorems.{key-has_layer}
use Rattle.edit_laws.proofs.lookups.key_has_a_layer_of_the_digest.Goals as goal

pub returns : goal.returns
returns c = key-has_layer

use Rattle.edit_laws.proofs.Tops.{layer_of-top}
use Rattle.batch_laws.proofs.trees.top_has_the_greatest_layer.Goals as goal

pub returns : goal.returns
returns c = layer_of-top

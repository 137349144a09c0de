use Rattle.spec.proofs.PathNodes.{path-among, length-path, top_layer-le}
use Rattle.spec.proofs.laws.verifier.path_is_of_the_tree.Goals as goal

pub returns-clause-of_tree : goal.returns-clause-of_tree
returns-clause-of_tree c = path-among

pub returns-clause-short : goal.returns-clause-short
returns-clause-short c = length-path

pub returns-clause-few_layers : goal.returns-clause-few_layers
returns-clause-few_layers c = top_layer-le

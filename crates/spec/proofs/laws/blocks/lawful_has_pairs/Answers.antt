use Rattle.spec.proofs.RecordPairs.{lawful-pairs}
use Rattle.spec.proofs.laws.blocks.lawful_has_pairs.Goals as goal

pub returns : goal.returns
returns c = lawful-pairs

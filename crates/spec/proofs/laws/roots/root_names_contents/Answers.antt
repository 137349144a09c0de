use Rattle.spec.proofs.RootLaws.{root-names}
use Rattle.spec.proofs.laws.roots.root_names_contents.Goals as goal

pub returns : goal.returns
returns c = λ digest bits es fs fits. root-names digest bits fits es fs

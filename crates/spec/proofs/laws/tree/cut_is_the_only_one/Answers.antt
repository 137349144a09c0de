use Rattle.std.proofs.Common.{sym}
use Rattle.spec.proofs.TreeLaws.{IsCut-cut, only_cut}
use Rattle.spec.proofs.laws.tree.cut_is_the_only_one.Goals as goal

pub returns : goal.returns
returns c = λ layer n es. (IsCut-cut layer n es, λ g is. sym (only_cut layer n es g is))

use Rattle.spec.proofs.BlockLaws.{IsClashFree-parts, IsClashFree-append}
use Rattle.spec.proofs.laws.clashes.together_clash_free.Goals as goal

pub returns : goal.returns
returns c = λ digest xs ys. (IsClashFree-parts digest xs ys, λ h. IsClashFree-append digest xs ys h.0 h.1 h.2)

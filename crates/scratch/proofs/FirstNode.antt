-- The link to a part is that to the first of its nodes.
use Rattle.std.proofs.Common.{◌≡◌, ◌≢◌, ℕ, zero, suc, List, [], ◌∷◌, take, map, refl, ap, ◌∙◌, Option}
use Rattle.std.specs.Prelude.{slice_get}
use Rattle.std.specs.Arc.{arc_value}
use Rattle.std.specs.declared.option.Option.TheVariants.{Some}
use Rattle.std.specs.declared.sync.Arc.{Arc}
use Rattle.spec.specs.Cid.{cid}
use Rattle.scratch.specs.Cut.{link_to}

same-some : {X : Type 0} (x y : X) → ◌≡◌ {A = Option X} (Some x) (Some y) → x ≡ y
same-some x y h = cc

pub link-first : {A : Type 0} (digest : List ℕ → List ℕ) (n : ℕ) (ns : List (Arc (List ℕ) A)) (b : Arc (List ℕ) A) (c : List ℕ) → n ≢ 0
    → Some b ≡ slice_get ns 0 → c ≡ cid digest (arc_value b) → Some c ≡ link_to digest (take n (map arc_value ns))
link-first digest n [] b c h e q = absurd cc
link-first digest zero (x ∷ ns) b c h e q = absurd (h refl)
link-first digest (suc n) (x ∷ ns) b c h e q = ap Some (q ∙ ap (λ y. cid digest (arc_value y)) (same-some b x e))

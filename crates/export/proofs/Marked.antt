-- The mark of a block that was found says whether its CID may repeat.
use Rattle.std.proofs.Common.{◌≡◌, ℕ, Bool, List, Option, sym, subst, ◌∙◌}
use Rattle.std.specs.declared.option.Option.TheVariants.{Some}
use Rattle.std.specs.declared.sync.Arc.{Arc}
use Rattle.spec.specs.Cid.{cid}
use Rattle.export.specs.Founds.{bytes_found, AreMarked}
use Rattle.export.specs.Once.{AreRepeats, HasNoted, IsNewOr}
use Rattle.export.specs.declared.found.Found.{Found}

module _ {A : Type 0} (digest : List ℕ → List ℕ) (gives : List ℕ → Option (Found (Arc (List ℕ) A))) (may_repeat : List ℕ → Bool) (f : Found (Arc (List ℕ) A))
    (from : (c : List ℕ) × (gives c ≡ Some f)) (marked : AreMarked digest may_repeat gives) where
  mark : f.may_repeat ≡ may_repeat (cid digest (bytes_found f))
  mark = marked from.0 f from.1

  -- one that can't repeat wasn't noted
  pub is-new : (seen : List (List ℕ)) → AreRepeats may_repeat seen → IsNewOr f.may_repeat seen (cid digest (bytes_found f))
  is-new seen noted e = noted (cid digest (bytes_found f)) (sym mark ∙ e)

  pub noted-as : (old new : List (List ℕ)) → HasNoted f.may_repeat old (cid digest (bytes_found f)) new
      → HasNoted (may_repeat (cid digest (bytes_found f))) old (cid digest (bytes_found f)) new
  noted-as old new h = subst (λ m. HasNoted m old (cid digest (bytes_found f)) new) mark h

-- Where what was listed isn't a tree's, there is none.
use Rattle.std.proofs.Common.{◌≡◌, ℕ, Bool, true, false, List, Result, Err, refl, sym, subst}
use Rattle.std.specs.Prelude.{IfErr}
use Rattle.spec.specs.Tree.{Pair}
use Rattle.spec.specs.NodeFormat.{is_ascending}
use Rattle.spec.specs.CarReading.{Section}
use Rattle.spec.specs.Exports.{NotTheTree, IsTree}
use Rattle.repository_check.specs.Parts.{AreListed, IsRebuilt, NoTree}
use Rattle.repository_check.proofs.Trees.{pairs-ascend}

module _ (digest : List ℕ → List ℕ) (bits : ℕ) (ss : List Section) (root : List ℕ) where
  -- the pairs that are listed aren't those of a tree
  others-listed : (es : List Pair) → AreListed digest bits ss root es → (IsTree digest bits ss root es → ⊥)
      → NoTree digest bits ss root NotTheTree
  others-listed es listed never =
      record { is = refl; none = λ fs is. never (subst (IsTree digest bits ss root) (sym (listed fs is)) is) }

  pub not-ascending : (es : List Pair) (t : Bool) → AreListed digest bits ss root es → t ≡ is_ascending es → t ≡ false
      → NoTree digest bits ss root NotTheTree
  not-ascending es t h test failed =
      others-listed es h (λ is. let a : is_ascending es ≡ true = pairs-ascend es is.pairs in cc)

  pub not-rebuilt : (es : List Pair) (t : Bool) → AreListed digest bits ss root es
      → (IsRebuilt digest bits ss root es → t ≡ true) → t ≡ false → NoTree digest bits ss root NotTheTree
  not-rebuilt es t h test failed =
      others-listed es h (λ is. let a : t ≡ true = test (record { root_is = is.root_is; nodes = is.nodes }) in cc)

pub err-is : {X E : Type 0} (r : Result X E) (P : E → Type 0) (e : E) → r ≡ Err e → P e → IfErr r P
err-is r P e is h = subst (λ x. IfErr x P) (sym is) h

-- Which blocks a core holds, and gives back when it ends.
use Rattle.std.proofs.Common.{◌≡◌, ℕ, ◌<◌, ◌∷◌, [], List, length, refl, ap, sym, true, false, arith}
use Rattle.std.specs.Prelude.{Option, Some, None, is_some}
use Rattle.kept.specs.Uses.{Uses, at, keeping_of}
use Rattle.kept.specs.Leaving.{is_held}
use Rattle.kept.specs.declared.kept_use.Use.{Use}
use Rattle.kept.proofs.Entries.{listed_at}
use Rattle.kept.proofs.Counting.{none_at, used_at}

module _ {D A : Type 0} (digest : List ℕ → List ℕ) where
  pub none_in : (es : List (List ℕ × Use D A)) (c : List ℕ) → (0 < length es → ⊥) → listed_at es c ≡ None
  none_in [] c never = refl
  none_in (e ∷ es) c never = absurd (never (omega arith))

  pub held_none : (m : Uses D A) (c : List ℕ) (me : ℕ) → at m c ≡ None → is_held (keeping_of me m) c ≡ false
  held_none m c me e = sym (ap (λ (o : Option (List ℕ)). is_some o) (none_at m c e))

  pub held_some : (m : Uses D A) (c : List ℕ) (me : ℕ) (u : Use D A) → at m c ≡ Some u → 0 < u.uses → is_held (keeping_of me m) c ≡ true
  held_some m c me u e some = sym (ap (λ (o : Option (List ℕ)). is_some o) (used_at m c u e some))

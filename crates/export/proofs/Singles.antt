-- Blocks of which it is known that they stand once are neither looked for nor noted.
use Rattle.std.proofs.Common.{◌≡◌, ◌&&◌, ◌||◌, ℕ, ◌≤◌, Bool, true, false, List, [], ◌∷◌, ◌++◌, refl, sym, ap, ◌∙◌, arith}
use Rattle.std.specs.Prelude.{Contains, Result, Ok, Err, OnOk}
use Rattle.std.specs.Str.{bytes_eq}
use Rattle.std.proofs.lemmas.Slice.Eq.{bytes_eq-Decides}
use Rattle.spec.specs.Cid.{cid}
use Rattle.edit_laws.specs.Changes.{one_if_equal}
use Rattle.edit_laws.specs.Uses.{uses}
use Rattle.edit_laws.proofs.Orders.{order-same}
use Rattle.edit_laws.proofs.Using.{used_at}
use Rattle.export.specs.Once.{has, AreRepeats, AreSingle, HasNoted}
use Rattle.export.proofs.FirstOnes.{HasMoreAmong}

differs : (t : Bool) (c d : List ℕ) → bytes_eq c d ≡ t → (c ≡ d → ⊥) → t ≡ false
differs true c d e n = absurd (n ((bytes_eq-Decides c d).0 e))
differs false c d e n = refl

-- ---- what is left stands once

uses-later : (digest : List ℕ → List ℕ) (c : List ℕ) (xs ys : List (List ℕ)) → uses digest c ys ≤ uses digest c (xs ++ ys)
uses-later digest c [] ys = omega arith
uses-later digest c (x ∷ xs) ys = let i = uses-later digest c xs ys in omega arith

pub single-later : (digest : List ℕ → List ℕ) (may_repeat : List ℕ → Bool) (xs ys : List (List ℕ)) → AreSingle digest may_repeat (xs ++ ys)
    → AreSingle digest may_repeat ys
single-later digest may_repeat xs ys s c e = let i = uses-later digest c xs ys in let j = s c e in omega arith

-- ---- one block

module _ (digest : List ℕ → List ℕ) (may_repeat : List ℕ → Bool) (b : List ℕ) (bs : List (List ℕ)) (s : AreSingle digest may_repeat (b ∷ bs)) where
  other : (x : List ℕ) → Contains bs x → may_repeat (cid digest b) ≡ false → cid digest b ≡ cid digest x → ⊥
  other x i e same =
      let u = used_at digest bs x (cid digest b) (sym same) i in
      let o = ap one_if_equal (order-same (cid digest b)) in
      let most = s (cid digest b) e in
      absurd (omega arith)

  noted : (t : Bool) (x : List ℕ) → Contains bs x → may_repeat (cid digest b) ≡ t
      → (may_repeat (cid digest b) && bytes_eq (cid digest b) (cid digest x)) ≡ bytes_eq (cid digest b) (cid digest x)
  noted true x i e = ap (λ u. u && bytes_eq (cid digest b) (cid digest x)) e
  noted false x i e =
      ap (λ u. u && bytes_eq (cid digest b) (cid digest x)) e ∙ sym (differs (bytes_eq (cid digest b) (cid digest x)) (cid digest b) (cid digest x) refl (other x i e))

  -- after it, what is noted serves as well as if all were noted
  pub noted-more : (old new : List (List ℕ)) → HasNoted (may_repeat (cid digest b)) old (cid digest b) new → HasMoreAmong digest bs old (cid digest b) new
  noted-more old new n x i = n (cid digest x) ∙ ap (λ u. u || has old (cid digest x)) (noted (may_repeat (cid digest b)) x i refl)

-- ---- what is noted may repeat

module _ (may_repeat : List ℕ → Bool) (old new : List (List ℕ)) (c : List ℕ) where
  still-none : (t : Bool) (d : List ℕ) → may_repeat c ≡ t → may_repeat d ≡ false → has old d ≡ false
      → ((may_repeat c && bytes_eq c d) || has old d) ≡ false
  still-none true d e f h =
      ap (λ u. (u && bytes_eq c d) || has old d) e
      ∙ ap (λ u. u || has old d) (differs (bytes_eq c d) c d refl (λ same. let clash = sym e ∙ ap may_repeat same ∙ f in cc))
      ∙ h
  still-none false d e f h = ap (λ u. (u && bytes_eq c d) || has old d) e ∙ h

  pub repeats-more : AreRepeats may_repeat old → HasNoted (may_repeat c) old c new → AreRepeats may_repeat new
  repeats-more r n d f = n d ∙ still-none (may_repeat c) d refl f (r d f)

  pub repeats-ok : {T E : Type 0} (r : Result T E) → AreRepeats may_repeat old → OnOk r (HasNoted (may_repeat c) old c new)
      → OnOk r (AreRepeats may_repeat new)
  repeats-ok (Ok x) k n = repeats-more k n
  repeats-ok (Err e) k n = tt

-- nothing is noted so far
pub none-noted : (may_repeat : List ℕ → Bool) (cids : List (List ℕ)) → cids ≡ [] → AreRepeats may_repeat cids
none-noted may_repeat cids e c f = ap (λ s. has s c) e

-- one that can't repeat isn't noted
pub not-noted : (may_repeat : Bool) (cids : List (List ℕ)) (c : List ℕ) → may_repeat ≡ false → HasNoted may_repeat cids c cids
not-noted may_repeat cids c e d = sym (ap (λ (m : Bool). (m && bytes_eq c d) || has cids d) e)

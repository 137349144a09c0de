-- Whether a core has a block with a CID, by what it answers and by what it lists.
use mathlib.Core.Bool.{true≢false}
use Rattle.std.proofs.Common.{zero, suc, ◌≡◌, ℕ, List, [], ◌∷◌, refl, sym, ap, ◌∙◌, Bool, true, false, cond, arith, Option, Some, None}
use Rattle.std.specs.Prelude.{◌||◌, Contains, is_some, option_map, find}
use Rattle.std.specs.List.{list_any}
use Rattle.std.specs.Str.{bytes_eq}
use Rattle.spec.specs.Cid.{cid as cid_of}
use Rattle.spec.specs.States.{State, state_blocks}
use Rattle.repo.specs.Readings.{AreBlocksOnce, state_block}
use Rattle.closing.specs.Tally.{has, has_in}

-- two tests of which each holds where the other does
pub true_both : (a b : Bool) → (a ≡ true → b ≡ true) → (b ≡ true → a ≡ true) → a ≡ b
true_both true true f g = refl
true_both false false f g = refl
true_both true false f g = sym (f refl)
true_both false true f g = g refl

pub or_later : (x y : Bool) → y ≡ true → (x || y) ≡ true
or_later true y e = refl
or_later false y e = e

module _ {X : Type 0} (p : X → Bool) where
  pub found_any : (xs : List X) → is_some (find p xs) ≡ list_any p xs
  found_any [] = refl
  found_any (x ∷ xs) = step (p x) (found_any xs)
    where
      step : (b : Bool) → is_some (find p xs) ≡ list_any p xs → is_some (cond b (Some x) (find p xs)) ≡ (b || list_any p xs)
      step true h = refl
      step false h = h

  pub any_in : (xs : List X) (x : X) → Contains xs x → p x ≡ true → list_any p xs ≡ true
  any_in [] x (k, less, is) t = absurd (omega arith)
  any_in (y ∷ ys) x (zero, less, is) t = ap (λ b. b || list_any p ys) (ap p is ∙ t)
  any_in (y ∷ ys) x (suc k, less, is) t = or_later (p y) _ (any_in ys x (k, omega arith, is) t)

  pub any_out : (xs : List X) → list_any p xs ≡ true → (x : X) × Contains xs x × (p x ≡ true)
  any_out [] e = absurd (true≢false (sym e))
  any_out (y ∷ ys) e = step (any_out ys) (p y) refl e
    where
      step : (list_any p ys ≡ true → (x : X) × Contains ys x × (p x ≡ true)) → (b : Bool) → p y ≡ b → (b || list_any p ys) ≡ true
          → (x : X) × Contains (y ∷ ys) x × (p x ≡ true)
      step rest true t h = (y, (zero, omega arith, refl), t)
      step rest false t h = let r = rest h in (r.0, (suc r.1.0, omega (arith, r.1.1), r.1.2), r.2)

  -- lists with the same elements
  pub any_same : (xs ys : List X) → ((x : X) → Contains xs x → Contains ys x) → ((x : X) → Contains ys x → Contains xs x) → list_any p xs ≡ list_any p ys
  any_same xs ys f g = true_both _ _
      (λ h. let r = any_out xs h in any_in ys r.0 (f r.0 r.1) r.2)
      (λ h. let r = any_out ys h in any_in xs r.0 (g r.0 r.1) r.2)

some_mapped : {X Y : Type 0} (f : X → Y) (o : Option X) → is_some o ≡ is_some (option_map f o)
some_mapped f None = refl
some_mapped f (Some x) = refl

-- a core answers with a block where it has one
pub has_found : {X : Type 0} (digest : List ℕ → List ℕ) (bits : ℕ) (s : State) (cid : List ℕ) (f : X → List ℕ) (o : Option X) → option_map f o ≡ state_block digest bits s cid
    → is_some o ≡ has digest bits s cid
unfolding has
has_found digest bits s cid f o e =
    some_mapped f o ∙ ap (λ (b : Option (List ℕ)). is_some b) e ∙ found_any (λ b. bytes_eq (cid_of digest b) cid) (state_blocks digest bits s)

-- a list of its blocks has the CIDs that it has
pub has_once : (digest : List ℕ → List ℕ) (bits : ℕ) (s : State) (once : List (List ℕ)) → AreBlocksOnce digest bits s once → (cid : List ℕ)
    → has_in digest once cid ≡ has digest bits s cid
unfolding has
has_once digest bits s once is cid = any_same (λ b. bytes_eq (cid_of digest b) cid) once (state_blocks digest bits s) is.among is.whole

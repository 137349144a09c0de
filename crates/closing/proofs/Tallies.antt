-- The size of a set of numbered cores is how many of them there are.
use Rattle.std.proofs.Common.{suc, ◌≡◌, ℕ, ◌<◌, ◌+◌, ◌∷◌, [], List, refl, ap, sym, ◌∙◌, cond, nat_eq, Bool, true, false, arith}
use Rattle.std.specs.Prelude.{◌&&◌, ◌||◌}
use Rattle.std.proofs.lemmas.Bool.Decides.{nat_tests}
use Rattle.std.specs.Ordering.{nat_cmp}
use Rattle.std.specs.Cmp.{nat_cmp_total, unsigned_tied}
use Rattle.std.specs.FinSet as set
use Rattle.std.specs.FinSet.{nat_cmp-IsAntisymmetric}
use Rattle.std.proofs.lemmas.List.Sums.{sum_by-cons}
use Rattle.store.specs.Table.{Table}
use Rattle.spec.specs.States.{State}
use Rattle.closing.specs.Tally.{has, tally, entered, count, have, NumberedFrom, IsEven}

module _ (digest : List ℕ → List ℕ) (bits : ℕ) (cid : List ℕ) where
  -- the set of the numbers of those that have it
  holders : List State → set.FinSet nat_cmp
  holders [] = set.empty
  holders (s ∷ ss) = cond (has digest bits s cid) (set.insert (holders ss) s.me) (holders ss)

  in_step : (me number : ℕ) (h : Bool) (t : set.FinSet nat_cmp) (b : Bool) → set.contains t number ≡ b
      → set.contains (cond h (set.insert t me) t) number ≡ ((nat_eq me number && h) || b)
  in_step me number true t b e = set.contains-insert nat_cmp_total t me number ∙ (λ i. (unsigned_tied number me ∙ swap number me) i || e i)
    where
      swap : (x y : ℕ) → nat_eq x y ≡ (nat_eq y x && true)
      swap x y = grind (arith, nat_tests)
  in_step me number false t b e = e ∙ fall (nat_eq me number) b
    where
      fall : (x y : Bool) → y ≡ ((x && false) || y)
      fall true y = refl
      fall false y = refl

  in_holders : (ss : List State) (number : ℕ) → set.contains (holders ss) number ≡ have digest bits ss cid number
  unfolding holders
  in_holders [] number = set.contains-empty nat_cmp number
  in_holders (s ∷ ss) number = in_step s.me number (has digest bits s cid) (holders ss) _ (in_holders ss number)

  -- numbers from n on don't have an earlier one
  not_before : (n : ℕ) (ss : List State) (number : ℕ) → NumberedFrom n ss → number < n → have digest bits ss cid number ≡ false
  not_before n [] number is less = refl
  not_before n (s ∷ ss) number is less =
      ap (λ b. (b && has digest bits s cid) || have digest bits ss cid number) (other s.me n number is.0 less)
      ∙ not_before (suc n) ss number is.1 (omega arith)
    where
      other : (me n number : ℕ) → me ≡ n → number < n → nat_eq me number ≡ false
      other me n number e less = grind (arith, nat_tests)

  size_step : (h : Bool) (t : set.FinSet nat_cmp) (me k : ℕ) → set.contains t me ≡ false → set.len t ≡ k
      → set.len (cond h (set.insert t me) t) ≡ cond h 1 0 + k
  size_step true t me k out e = set.len-insert nat_cmp_total t me ∙ ap (λ b. cond b (set.len t) (set.len t + 1)) out ∙ omega (arith, e)
  size_step false t me k out e = omega (arith, e)

  size_of_holders : (n : ℕ) (ss : List State) → NumberedFrom n ss → set.len (holders ss) ≡ tally digest bits ss cid
  unfolding holders
  size_of_holders n [] is = set.len-empty nat_cmp
  size_of_holders n (s ∷ ss) is =
      size_step (has digest bits s cid) (holders ss) s.me _
      (in_holders ss s.me ∙ not_before (suc n) ss s.me is.1 (let e : s.me ≡ n = is.0 in omega arith))
      (size_of_holders (suc n) ss is.1)
      ∙ sym (sum_by-cons (λ s. cond (has digest bits s cid) 1 0) s ss)

  -- a set whose members are the numbers of those that have it
  pub size_is_tally : (ss : List State) (t : set.FinSet nat_cmp) → NumberedFrom 0 ss
      → ((number : ℕ) → set.contains t number ≡ have digest bits ss cid number) → set.len t ≡ tally digest bits ss cid
  size_is_tally ss t is same =
      ap (λ x. set.len x) (set.same_set nat_cmp_total nat_cmp-IsAntisymmetric t (holders ss) (λ number. same number ∙ sym (in_holders ss number)))
      ∙ size_of_holders 0 ss is

pub count_is_tally : (digest : List ℕ → List ℕ) (bits : ℕ) (cores : List State) (tables : List Table) → IsEven digest bits cores tables
    → (cid : List ℕ) → count tables cid ≡ tally digest bits cores cid
count_is_tally digest bits cores tables even cid = size_is_tally digest bits cid cores (entered tables cid) even.numbered (even.same cid)

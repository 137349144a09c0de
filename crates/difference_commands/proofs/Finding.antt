-- The record of a key among entries whose keys ascend, found by halving.
use Rattle.std.proofs.Common.{◌≡◌, ℕ, zero, suc, ◌<◌, ◌≤◌, Bool, true, false, cond, List, [], ◌∷◌, length, get_or, Ordering, Less, Equal, Greater, refl, sym, ap, subst, ◌∙◌, arith, inl, inr}
use Rattle.std.specs.declared.option.Option.TheVariants.{Some, None}
use Rattle.std.specs.Cmp.Lexicographic.{slice_cmp, nat_list_cmp_total}
use Rattle.std.specs.List.Sorted.{IsNonDecreasingBy, IsPartitionPoint}
use Rattle.std.specs.Ordering.{nat_cmp, is_lt, is_eq, eq_by_cmp, ordering_index}
use Rattle.std.specs.FinMap.{find, is_sorted, slice_cmp-IsAntisymmetric, nat_cmp-IsAntisymmetric}
use Rattle.std.specs.FinMap.Entries.{below_all}
use Rattle.std.proofs.lemmas.Bool.{cases_lt}
use Rattle.spec.proofs.Bools.{both}
use Rattle.difference_commands.specs.Views.{Entry, pairs_in, records_in}

abbrev order : List ℕ → List ℕ → Ordering
order = slice_cmp nat_cmp

abbrev Entries : Type 0
Entries = List Entry

abbrev key : Entry → List ℕ
key x = x.0.0

same_key : (a b : List ℕ) → order a b ≡ Equal → a ≡ b
same_key = slice_cmp-IsAntisymmetric nat_cmp-IsAntisymmetric

-- ---- keys that ascend

is-less : (o : Ordering) → is_lt o ≡ true → o ≡ Less
is-less Less e = refl
is-less Equal e = absurd cc
is-less Greater e = absurd cc

below-at : (k : List ℕ) (xs : Entries) (i : ℕ) (d : Entry) → below_all order k (pairs_in xs) ≡ true → i < length xs
    → order k (key (get_or xs i d)) ≡ Less
below-at k [] i d h lt = absurd (omega arith)
below-at k (x ∷ xs) zero d h lt = is-less _ (both (is_lt (order k (key x))) (below_all order k (pairs_in xs)) h).0
below-at k (x ∷ xs) (suc i) d h lt =
    below-at k xs i d (both (is_lt (order k (key x))) (below_all order k (pairs_in xs)) h).1 (omega arith)

rising : (xs : Entries) (i j : ℕ) (d : Entry) → is_sorted order (pairs_in xs) ≡ true → i < j → j < length xs
    → order (key (get_or xs i d)) (key (get_or xs j d)) ≡ Less
rising [] i j d s lt in_range = absurd (omega arith)
rising (x ∷ xs) i zero d s lt in_range = absurd (omega arith)
rising (x ∷ xs) zero (suc j) d s lt in_range =
    below-at (key x) xs j d (both (below_all order (key x) (pairs_in xs)) (is_sorted order (pairs_in xs)) s).0 (omega arith)
rising (x ∷ xs) (suc i) (suc j) d s lt in_range =
    rising xs i j d (both (below_all order (key x) (pairs_in xs)) (is_sorted order (pairs_in xs)) s).1 (omega arith) (omega arith)

-- ---- the comparisons with a key rise

module _ (k : List ℕ) where
  index-case : (a b : List ℕ) (o : Ordering) → order a b ≡ Less → order b k ≡ o
      → ordering_index (order a k) ≤ ordering_index (order b k)
  index-case a b Less less is =
      let l : order a k ≡ Less = nat_list_cmp_total.trans a b k less is in
      subst (λ (p : Ordering). ordering_index p ≤ ordering_index (order b k)) (sym l) (omega arith)
  index-case a b Equal less is =
      let l : order a k ≡ Less = subst (λ (z : List ℕ). order a z ≡ Less) (same_key b k is) less in
      subst (λ (p : Ordering). ordering_index p ≤ ordering_index (order b k)) (sym l) (omega arith)
  index-case a b Greater less is =
      subst (λ (p : Ordering). ordering_index (order a k) ≤ ordering_index p) (sym is) (most (order a k))
    where
      most : (o : Ordering) → ordering_index o ≤ 2
      most Less = omega arith
      most Equal = omega arith
      most Greater = omega arith

  comparisons-rise : (xs : Entries) → is_sorted order (pairs_in xs) ≡ true
      → IsNonDecreasingBy (λ x. ordering_index (order (key x) k)) xs
  comparisons-rise xs s i j d le in_range = elim (cases_lt i j) [
    | inl lt ↦ index-case (key (get_or xs i d)) (key (get_or xs j d)) (order (key (get_or xs j d)) k) (rising xs i j d s lt in_range) refl
    | inr ge ↦
        let same : i ≡ j = omega arith in
        subst (λ (n : ℕ). ordering_index (order (key (get_or xs i d)) k) ≤ ordering_index (order (key (get_or xs n d)) k)) same (omega arith)
  ]

  -- ---- what is found

  eq-here : (a : List ℕ) → order a k ≡ Equal → eq_by_cmp order k a ≡ true
  eq-here a e =
      let same : a ≡ k = same_key a k e in
      let q : order a a ≡ Equal = subst (λ (z : List ℕ). order a z ≡ Equal) (sym same) e in
      ap is_eq (subst (λ (z : List ℕ). order z a ≡ Equal) same q)

  not-equal : (o : Ordering) → (o ≡ Equal → ⊥) → is_eq o ≡ false
  not-equal Less h = refl
  not-equal Equal h = absurd (h refl)
  not-equal Greater h = refl

  eq-not : (a : List ℕ) → (order a k ≡ Equal → ⊥) → eq_by_cmp order k a ≡ false
  eq-not a h = not-equal (order k a) (λ e.
      let same : k ≡ a = same_key k a e in
      let q : order k k ≡ Equal = subst (λ (z : List ℕ). order k z ≡ Equal) (sym same) e in
      h (subst (λ (z : List ℕ). order z k ≡ Equal) same q))

  pub found-at : (xs : Entries) (i : ℕ) (d : Entry) → is_sorted order (pairs_in xs) ≡ true → i < length xs
      → order (key (get_or xs i d)) k ≡ Equal → find order k (records_in xs) ≡ Some (get_or xs i d).0.1
  found-at [] i d s lt e = absurd (omega arith)
  found-at (x ∷ xs) zero d s lt e =
      ap (λ (t : Bool). cond t (Some x.0.1) (find order k (records_in xs))) (eq-here (key x) e)
  found-at (x ∷ xs) (suc i) d s lt e =
      let p = both (below_all order (key x) (pairs_in xs)) (is_sorted order (pairs_in xs)) s in
      let less : order (key x) k ≡ Less =
      subst (λ (z : List ℕ). order (key x) z ≡ Less) (same_key _ k e) (below-at (key x) xs i d p.0 (omega arith)) in
      ap (λ (t : Bool). cond t (Some x.0.1) (find order k (records_in xs))) (eq-not (key x) (λ q. let z : Less ≡ Equal = sym less ∙ q in absurd cc))
      ∙ found-at xs i d p.1 (omega arith) e

  found-none : (xs : Entries) → ((i : ℕ) (d : Entry) → i < length xs → order (key (get_or xs i d)) k ≡ Equal → ⊥)
      → find order k (records_in xs) ≡ None
  found-none [] h = refl
  found-none (x ∷ xs) h =
      ap (λ (t : Bool). cond t (Some x.0.1) (find order k (records_in xs))) (eq-not (key x) (h 0 x (omega arith)))
      ∙ found-none xs (λ i d lt. h (suc i) d (omega arith))

  -- no key is the one where all before a place are less, and all from there on are greater
  pub found-nowhere : (xs : Entries) (n : ℕ) → is_sorted order (pairs_in xs) ≡ true
      → (IsNonDecreasingBy (λ x. ordering_index (order (key x) k)) xs
      → IsPartitionPoint (λ x. order (key x) k ≡ Less) (λ x. order (key x) k ≡ Greater) xs n)
      → find order k (records_in xs) ≡ None
  found-nowhere xs n s parted =
      let p = parted (comparisons-rise xs s) in
      found-none xs (λ i d lt e. elim (cases_lt i n) [
        | inl before ↦ let l : order (key (get_or xs i d)) k ≡ Less = p.0 i d (omega arith) before in let z : Less ≡ Equal = sym l ∙ e in absurd cc
        | inr after ↦ let g : order (key (get_or xs i d)) k ≡ Greater = p.1 i d after lt in let z : Greater ≡ Equal = sym g ∙ e in absurd cc
      ])

-- The kept blocks, each once.
use Rattle.std.proofs.Common.{◌≡◌, ℕ, ◌∷◌, [], List, refl, ap, sym, ◌∙◌, subst, cond, Bool, true, false, arith, nat_eq}
use Rattle.std.specs.Prelude.{Option, Some, None, option_map, map as each, ◌&&◌, ◌<◌, T}
use Rattle.std.specs.Arc.{arc_value}
use Rattle.std.specs.Ordering.{nat_cmp, is_eq, is_lt}
use Rattle.std.specs.declared.cmp.Ordering.{Ordering}
use Rattle.std.specs.declared.cmp.Ordering.TheVariants.{Less, Equal, Greater}
use Rattle.std.specs.Cmp.Lexicographic.{slice_cmp, nat_list_cmp_total, nat_list_eq_equiv, pointwise, texts_ties}
use Rattle.std.specs.List.Sorted.{IsPermutation}
use Rattle.std.specs.List.{AllByRecursion, IsDistinct}
use Rattle.std.specs.Map.{keys_of, lookup, remove_entry}
use Rattle.std.proofs.lemmas.List.Sorted.{IsPermutation-refl, IsPermutation-sym, IsPermutation-trans, IsPermutation-cons, IsPermutation-swap}
use Rattle.std.proofs.lemmas.Map.{lookup-remove_entry}
use Rattle.std.proofs.lemmas.Map.Keys.{IsDistinct-head, IsDistinct-tail, IsDistinct-cons}
use Rattle.std.specs.FinMap as map
use Rattle.std.specs.FinMap.{find, is_sorted}
use Rattle.std.specs.FinMap.Entries.{same_entries, below_all}
use Rattle.kept.specs.Counts.{blocks_of}
use Rattle.kept.specs.Uses.{Uses, at, counted, used_blocks}
use Rattle.kept.specs.declared.kept_use.Use.{Use}
use Rattle.kept.proofs.Entries.{same, the_same, seen_at, entries_at, shown_at}
use Rattle.kept.proofs.Counting.{count_in, some_if_used, get_counted}

both : (a b : Bool) → T a → T b → T (a && b)
both true b p q = q
both false b p q = p

first : (a b : Bool) → T (a && b) → T a
first true b p = tt
first false b p = p

second : (a b : Bool) → T (a && b) → T b
second true b p = p
second false b p = absurd p

-- ---- the entries with their counts

module _ {D A : Type 0} where
  abbrev with_uses : Use D A → List ℕ × ℕ
  with_uses u = (arc_value u.hold.0, u.uses)

  abbrev used_entries : List (List ℕ × Use D A) → List (List ℕ × (List ℕ × ℕ))
  used_entries es = each (λ e. (e.0, with_uses e.1)) es

  used_below : (k : List ℕ) (es : List (List ℕ × Use D A)) → T (below_all (slice_cmp nat_cmp) k es) → T (below_all (slice_cmp nat_cmp) k (used_entries es))
  used_below k [] h = tt
  used_below k (e ∷ es) h = both _ _ (first _ _ h) (used_below k es (second _ _ h))

  used_sorted : (es : List (List ℕ × Use D A)) → T (is_sorted (slice_cmp nat_cmp) es) → T (is_sorted (slice_cmp nat_cmp) (used_entries es))
  used_sorted [] h = tt
  used_sorted (e ∷ es) h = both _ _ (used_below e.0 es (first _ _ h)) (used_sorted es (second _ _ h))

  used_find : (es : List (List ℕ × Use D A)) (q : List ℕ)
      → find (slice_cmp nat_cmp) q (used_entries es) ≡ option_map with_uses (find (slice_cmp nat_cmp) q es)
  used_find [] q = refl
  used_find (e ∷ es) q = step (is_eq (slice_cmp nat_cmp q e.0)) (used_find es q)
    where
      step : (b : Bool) → find (slice_cmp nat_cmp) q (used_entries es) ≡ option_map with_uses (find (slice_cmp nat_cmp) q es)
          → cond b (Some (with_uses e.1)) (find (slice_cmp nat_cmp) q (used_entries es)) ≡ option_map with_uses (cond b (Some e.1) (find (slice_cmp nat_cmp) q es))
      step true rest = refl
      step false rest = rest

  used_bytes : (es : List (List ℕ × Use D A)) → used_blocks es ≡ each (λ e. e.1.0) (used_entries es)
  used_bytes [] = refl
  used_bytes (e ∷ es) = ap (λ xs. arc_value e.1.hold.0 ∷ xs) (used_bytes es)

  count_used : (o : Option (Use D A)) → ((u : Use D A) → o ≡ Some u → 0 < u.uses) → option_map with_uses o ≡ count_in o
  count_used None h = refl
  count_used (Some u) h = sym (some_if_used (arc_value u.hold.0) u.uses (h u refl))

  -- the blocks of the code's entries, where each is used, are those of the counts
  pub used_counted : (m : Uses D A) → ((q : List ℕ) (u : Use D A) → at m q ≡ Some u → 0 < u.uses) → used_blocks (map.entries m) ≡ blocks_of (counted m)
  used_counted m used = used_bytes (map.entries m)
      ∙ ap (λ (es : List (List ℕ × (List ℕ × ℕ))). each (λ e. e.1.0) es)
      (same_entries (slice_cmp nat_cmp) nat_list_cmp_total same _ _ (used_sorted (map.entries m) (map.entries_sorted m)) (map.entries_sorted (counted m))
      (λ q. used_find (map.entries m) q
      ∙ ap (option_map with_uses) (sym (map.get-entries m q))
      ∙ count_used (at m q) (used q)
      ∙ sym (get_counted m q)
      ∙ map.get-entries (counted m) q))

-- ---- the entries in another order

apart_from : (r : Ordering) → T (is_lt r) → is_eq r ≡ false
apart_from Less h = refl
apart_from Equal h = absurd h
apart_from Greater h = absurd h

module _ {X : Type 0} where
  apart_below : (k : List ℕ) (es : List (List ℕ × X)) → T (below_all (slice_cmp nat_cmp) k es) → AllByRecursion (λ y. pointwise nat_eq k y ≡ false) (keys_of es)
  apart_below k [] h = tt
  apart_below k (e ∷ es) h = (texts_ties k e.0 ∙ apart_from (slice_cmp nat_cmp k e.0) (first _ _ h), apart_below k es (second _ _ h))

  -- what ascends is distinct
  pub distinct_sorted : (es : List (List ℕ × X)) → T (is_sorted (slice_cmp nat_cmp) es) → IsDistinct (pointwise nat_eq) (keys_of es)
  unfolding IsDistinct
  distinct_sorted [] h = tt
  distinct_sorted (e ∷ es) h = (apart_below e.0 es (first _ _ h), distinct_sorted es (second _ _ h))

  all_without : (P : List ℕ → Type 0) (test : List ℕ → Bool) (es : List (List ℕ × X)) → AllByRecursion P (keys_of es) → AllByRecursion P (keys_of (remove_entry test es))
  all_without P test [] a = tt
  all_without P test (e ∷ es) a = step (test e.0) (all_without P test es a.1)
    where
      step : (b : Bool) → AllByRecursion P (keys_of (remove_entry test es)) → AllByRecursion P (keys_of (cond b es (e ∷ remove_entry test es)))
      step true r = a.1
      step false r = (a.0, r)

  distinct_without : (test : List ℕ → Bool) (es : List (List ℕ × X)) → IsDistinct (pointwise nat_eq) (keys_of es) → IsDistinct (pointwise nat_eq) (keys_of (remove_entry test es))
  distinct_without test [] d = d
  distinct_without test (e ∷ es) d =
      step (test e.0) (distinct_without test es (IsDistinct-tail (pointwise nat_eq) e.0 (keys_of es) d))
    where
      step : (b : Bool) → IsDistinct (pointwise nat_eq) (keys_of (remove_entry test es)) → IsDistinct (pointwise nat_eq) (keys_of (cond b es (e ∷ remove_entry test es)))
      step true r = IsDistinct-tail (pointwise nat_eq) e.0 (keys_of es) d
      step false r = IsDistinct-cons (pointwise nat_eq) e.0 _ (all_without (λ y. pointwise nat_eq e.0 y ≡ false) test es (IsDistinct-head (pointwise nat_eq) e.0 (keys_of es) d)) r

module _ {D A : Type 0} where
  pulled : (q : List ℕ) (v : Use D A) (es : List (List ℕ × Use D A)) → lookup (pointwise nat_eq q) es ≡ Some v
      → IsPermutation (used_blocks es) (arc_value v.hold.0 ∷ used_blocks (remove_entry (pointwise nat_eq q) es))
  pulled q v [] h = absurd cc
  pulled q v (e ∷ es) h = step (pulled q v es) (pointwise nat_eq q e.0) h
    where
      step : (lookup (pointwise nat_eq q) es ≡ Some v → IsPermutation (used_blocks es) (arc_value v.hold.0 ∷ used_blocks (remove_entry (pointwise nat_eq q) es)))
          → (b : Bool) → cond b (Some e.1) (lookup (pointwise nat_eq q) es) ≡ Some v
          → IsPermutation (used_blocks (e ∷ es)) (arc_value v.hold.0 ∷ used_blocks (cond b es (e ∷ remove_entry (pointwise nat_eq q) es)))
      step again true is =
          subst (λ (u : Use D A). IsPermutation (used_blocks (e ∷ es)) (arc_value u.hold.0 ∷ used_blocks es)) (the_same e.1 v is)
          (IsPermutation-refl (used_blocks (e ∷ es)))
      step again false is =
          let x = arc_value e.1.hold.0 in
          let y = arc_value v.hold.0 in
          let rest = used_blocks (remove_entry (pointwise nat_eq q) es) in
          IsPermutation-trans _ _ _ (IsPermutation-cons x _ _ (again is))
          (IsPermutation-swap (x ∷ y ∷ rest) (y ∷ x ∷ rest) 0 1 (omega arith) (omega arith) refl)

  -- two lists of distinct entries with the same under each CID have the same blocks
  shuffled : (es fs : List (List ℕ × Use D A)) → IsDistinct (pointwise nat_eq) (keys_of es) → IsDistinct (pointwise nat_eq) (keys_of fs)
      → ((q : List ℕ) → lookup (pointwise nat_eq q) es ≡ lookup (pointwise nat_eq q) fs) → IsPermutation (used_blocks es) (used_blocks fs)
  shuffled [] [] c d h = IsPermutation-refl []
  shuffled [] (y ∷ ys) c d h =
      absurd (let never : None ≡ Some y.1 = h y.0 ∙ ap (λ b. cond b (Some y.1) (lookup (pointwise nat_eq y.0) ys)) (nat_list_eq_equiv.refl y.0) in cc)
  shuffled (x ∷ xs) fs c d h =
      let eq = pointwise nat_eq in
      let k = x.0 in
      let o = nat_list_eq_equiv in
      let gone : remove_entry (eq k) (x ∷ xs) ≡ xs = ap (λ b. cond b xs (x ∷ remove_entry (eq k) xs)) (o.refl k) in
      let others = shuffled xs (remove_entry (eq k) fs) (IsDistinct-tail eq k (keys_of xs) c) (distinct_without (eq k) fs d)
      (λ q. ap (lookup (eq q)) (sym gone) ∙ lookup-remove_entry o (eq k) (o.congr k) q (x ∷ xs) c ∙ ap (cond (eq k q) None) (h q)
      ∙ sym (lookup-remove_entry o (eq k) (o.congr k) q fs d)) in
      IsPermutation-trans _ _ _ (IsPermutation-cons (arc_value x.1.hold.0) _ _ others)
      (IsPermutation-sym _ _ (pulled k x.1 fs (sym (h k) ∙ ap (λ b. cond b (Some x.1) (lookup (eq k) xs)) (o.refl k))))

  -- the same, in some order
  pub used_shuffled : (es : List (List ℕ × Use D A)) (m : Uses D A) → map.from_entries es ≡ m → IsDistinct (pointwise nat_eq) (keys_of es)
      → ((q : List ℕ) (u : Use D A) → at m q ≡ Some u → 0 < u.uses) → IsPermutation (blocks_of (counted m)) (used_blocks es)
  used_shuffled es m e d used =
      subst (λ (xs : List (List ℕ)). IsPermutation xs (used_blocks es)) (used_counted m used)
      (shuffled (map.entries m) es (distinct_sorted (map.entries m) (map.entries_sorted m)) d
      (λ q. seen_at (map.entries m) q ∙ entries_at m q ∙ sym (shown_at es m e q) ∙ sym (seen_at es q)))

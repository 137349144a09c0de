-- Of pairs with one key the last decides: reversed, sorted so that pairs of one key keep their order, and without those
-- whose key is that of the pair before.
use Rattle.std.proofs.Common.{◌≡◌, ℕ, Bool, true, false, cond, not, ◌&&◌, T, List, [], ◌∷◌, map, reverse, Option, Some, None, Ordering, Less, Equal, Greater, refl, sym, ap, ◌∙◌}
use Rattle.std.specs.Prelude.{fold, filter}
use Rattle.std.specs.List.{dedup, dedup_from, AllByRecursion}
use Rattle.std.specs.List.Sorted.{IsSorted, IsStrictlySortedBy, ties}
use Rattle.std.specs.Str.{bytes_eq}
use Rattle.std.specs.Ordering.{nat_cmp, is_lt, is_eq, eq_by_cmp, ordering_reverse}
use Rattle.std.specs.Cmp.Lexicographic.{slice_cmp, nat_list_cmp_total}
use Rattle.std.specs.FinMap.{put, find, is_sorted, slice_cmp-IsAntisymmetric, nat_cmp-IsAntisymmetric}
use Rattle.std.specs.FinMap.Entries.{below_all, is_sorted-put, find-put, same_entries}
use Rattle.std.proofs.lemmas.Cmp.{on_total}
use Rattle.std.proofs.lemmas.List.Kept.{IsStrictlySortedBy-dedup}
use Rattle.std.proofs.lemmas.Map.Text.{is_eq-slice_cmp}
use mathlib.Core.List.{reverse_aux}
use Rattle.spec.specs.Tree.{Pair}
use Rattle.tree_command.specs.TreeText.{last_of_each_key}

abbrev pub order : List ℕ → List ℕ → Ordering
order = slice_cmp nat_cmp

same_key : (x y : List ℕ) → order x y ≡ Equal → x ≡ y
same_key = slice_cmp-IsAntisymmetric nat_cmp-IsAntisymmetric

equal : (o : Ordering) → is_eq o ≡ true → o ≡ Equal
equal Less e = absurd cc
equal Equal e = refl
equal Greater e = absurd cc

to_T : (b : Bool) → b ≡ true → T b
to_T true e = tt
to_T false e = absurd cc

-- pairs seen as pairs of their parts
pub same_pairs : (es : List Pair) → map (λ (e : Pair). (e.0, e.1)) es ≡ es
same_pairs [] = refl
same_pairs (e ∷ es) = ap (λ fs. e ∷ fs) (same_pairs es)

-- ---- what the definition leaves

abbrev put_in : List Pair → Pair → List Pair
put_in m e = put order e.0 e.1 m

is_sorted-fold : (m es : List Pair) → T (is_sorted order m) → T (is_sorted order (fold put_in m es))
is_sorted-fold m [] h = h
is_sorted-fold m (e ∷ es) h = is_sorted-fold (put_in m e) es (is_sorted-put order nat_list_cmp_total e.0 e.1 m h)

pub is_sorted-last_of_each_key : (es : List Pair) → T (is_sorted order (last_of_each_key es))
is_sorted-last_of_each_key es = is_sorted-fold [] es tt

module _ {X : Type 0} (key value : X → List ℕ) where
  abbrev pub view : X → Pair
  view x = (key x, value x)

  abbrev pub before : X → X → Bool
  before x y = is_lt (order (key x) (key y))

  abbrev pub same : X → X → Bool
  same x y = bytes_eq (key x) (key y)

  found-fold : (q : List ℕ) (m : List Pair) (acc xs : List X) → find order q m ≡ find order q (map view acc) → find order q (fold put_in m (map view xs)) ≡ find order q (map view (reverse_aux xs acc))
  found-fold q m acc [] e = e
  found-fold q m acc (x ∷ xs) e =
      found-fold q (put_in m (view x)) (x ∷ acc) xs (find-put order nat_list_cmp_total q (key x) (value x) m ∙ ap (cond (eq_by_cmp order q (key x)) (Some (value x))) e)

  found-last : (q : List ℕ) (xs : List X) → find order q (last_of_each_key (map view xs)) ≡ find order q (map view (reverse xs))
  found-last q xs = found-fold q [] [] xs refl

  -- ---- a sort that keeps the order of ties keeps what is found

  ties_are : (x y : X) → ties before x y ≡ is_eq (order (key x) (key y))
  ties_are x y =
      rw (nat_list_cmp_total.antisymm (key y) (key x))
      (elim (order (key x) (key y)) as (λ o. (not (is_lt o) && not (is_lt (ordering_reverse o))) ≡ is_eq o) [ Less ↦ refl | Equal ↦ refl | Greater ↦ refl ])

  found-filter : (x : X) (xs : List X) → find order (key x) (map view (filter (ties before x) xs)) ≡ find order (key x) (map view xs)
  found-filter x [] = refl
  found-filter x (y ∷ ys) =
      let rest = found-filter x ys in
      ap (λ (t : Bool). find order (key x) (map view (cond t (y ∷ filter (ties before x) ys) (filter (ties before x) ys)))) (ties_are x y)
      ∙ elim (is_eq (order (key x) (key y))) as (λ b. is_eq (order (key x) (key y)) ≡ b → find order (key x) (map view (cond b (y ∷ filter (ties before x) ys) (filter (ties before x) ys))) ≡ cond b (Some (value y)) (find order (key x) (map view ys))) [
        | true ↦ λ t. ap (λ (b : Bool). cond b (Some (value y)) (find order (key x) (map view (filter (ties before x) ys)))) t
        | false ↦ λ t. rest
      ] refl

  found-one : (q v : List ℕ) (xs : List X) → find order q (map view xs) ≡ Some v → (x : X) × (q ≡ key x)
  found-one q v [] e = absurd cc
  found-one q v (x ∷ xs) e =
      elim (eq_by_cmp order q (key x)) as (λ b. eq_by_cmp order q (key x) ≡ b → cond b (Some (value x)) (find order q (map view xs)) ≡ Some v → (y : X) × (q ≡ key y)) [
        | true ↦ λ t _. (x, same_key q (key x) (equal _ t))
        | false ↦ λ _ f. found-one q v xs f
      ] refl e

  module _ (xs ys : List X) (stable : (x : X) → filter (ties before x) ys ≡ filter (ties before x) xs) where
    found-key : (x : X) → find order (key x) (map view ys) ≡ find order (key x) (map view xs)
    found-key x = sym (found-filter x ys) ∙ ap (λ zs. find order (key x) (map view zs)) (stable x) ∙ found-filter x xs

    found-of : (q : List ℕ) → (x : X) × (q ≡ key x) → find order q (map view ys) ≡ find order q (map view xs)
    found-of q p = rw p.1 (found-key p.0)

    found-either : (q : List ℕ) (a b : Option (List ℕ)) → find order q (map view ys) ≡ a → find order q (map view xs) ≡ b → find order q (map view ys) ≡ find order q (map view xs)
    found-either q (Some v) b e f = found-of q (found-one q v ys e)
    found-either q None (Some w) e f = found-of q (found-one q w xs f)
    found-either q None None e f = e ∙ sym f

    found-stable : (q : List ℕ) → find order q (map view ys) ≡ find order q (map view xs)
    found-stable q = found-either q _ _ refl refl

  -- ---- without those whose key is that of the pair before

  same-key : (x y : X) → same x y ≡ true → key x ≡ key y
  same-key x y e = same_key (key x) (key y) (equal _ (is_eq-slice_cmp (key x) (key y) ∙ e))

  twice : (b : Bool) (u v w : Option (List ℕ)) → cond b u w ≡ cond b u (cond b v w)
  twice true u v w = refl
  twice false u v w = refl

  found-dedup_from : (q : List ℕ) (k : X) (xs : List X) → find order q (map view (dedup_from same k xs)) ≡ find order q (map view (k ∷ xs))
  found-dedup_from q k [] = refl
  found-dedup_from q k (x ∷ xs) =
      elim (same x k) as (λ b. same x k ≡ b → find order q (map view (cond b (dedup_from same k xs) (k ∷ dedup_from same x xs))) ≡ find order q (map view (k ∷ x ∷ xs))) [
        | true ↦ λ t. found-dedup_from q k xs ∙ twice (eq_by_cmp order q (key k)) (Some (value k)) (Some (value x)) (find order q (map view xs))
            ∙ ap (λ z. cond (eq_by_cmp order q (key k)) (Some (value k)) (cond (eq_by_cmp order q z) (Some (value x)) (find order q (map view xs)))) (sym (same-key x k t))
        | false ↦ λ t. ap (cond (eq_by_cmp order q (key k)) (Some (value k))) (found-dedup_from q x xs)
      ] refl

  found-dedup : (q : List ℕ) (xs : List X) → find order q (map view (dedup same xs)) ≡ find order q (map view xs)
  found-dedup q [] = refl
  found-dedup q (x ∷ xs) = found-dedup_from q x xs

  below : (x : X) (ys : List X) → AllByRecursion (λ y. order (key x) (key y) ≡ Less) ys → below_all order (key x) (map view ys) ≡ true
  below x [] h = refl
  below x (y ∷ ys) h = rw h.0 (below x ys h.1)

  ascending : (xs : List X) → IsStrictlySortedBy (λ x y. order (key x) (key y)) xs → is_sorted order (map view xs) ≡ true
  unfolding IsStrictlySortedBy
  ascending [] h = refl
  ascending (x ∷ xs) h = rw (below x xs h.0) (ascending xs h.1)

  -- ---- all three steps

  pub last_by_sorting : (xs ys : List X) → IsSorted (λ x y. order (key x) (key y)) ys → ((x : X) → filter (ties before x) ys ≡ filter (ties before x) (reverse xs)) → map view (dedup same ys) ≡ last_of_each_key (map view xs)
  last_by_sorting xs ys sorted stable =
      same_entries order nat_list_cmp_total same_key (map view (dedup same ys)) (last_of_each_key (map view xs))
      (to_T _ (ascending (dedup same ys) (IsStrictlySortedBy-dedup (on_total key nat_list_cmp_total) (λ x y. sym (is_eq-slice_cmp (key x) (key y))) ys sorted)))
      (is_sorted-last_of_each_key (map view xs))
      (λ q. found-dedup q ys ∙ found-stable (reverse xs) ys stable q ∙ sym (found-last q xs))

-- Members in the order of their keys: there is one such order, whatever way they were sorted.
use Rattle.std.proofs.Common.{◌≡◌, ℕ, zero, suc, ◌+◌, ◌-◌, ◌<◌, ◌≤◌, Bool, true, false, cond, ◌||◌, ◌&&◌, eqb, ltb, List, [], ◌∷◌, length, get_or, drop, map, Some, None, IsPermutation, Contains, refl, sym, ap, subst, ◌∙◌, arith, inl, inr}
use Rattle.std.specs.Prelude.{◌⊎◌, ⊤}
use Rattle.std.specs.declared.cmp.Ordering.{Ordering}
use Rattle.std.specs.declared.cmp.Ordering.TheVariants.{Less, Equal, Greater}
use Rattle.std.specs.Borrow.{Bor}
use Rattle.std.specs.Cmp.{IsTotalOrder, IsStrictWeakOrder}
use Rattle.std.specs.Fn.{Called, ComparesAs}
use denote.Param.Members.{Mut}
use Rattle.std.proofs.lemmas.Fn.{always_returns_same}
use Rattle.std.proofs.lemmas.List.Sorted.{ranks_by}
use Rattle.std.specs.Cmp.Lexicographic.{slice_cmp}
use Rattle.std.specs.List.{count_by}
use Rattle.std.proofs.lemmas.Bool.{cond-true, cond-false}
use Rattle.std.proofs.lemmas.List.{get_or-map, length-map}
use Rattle.std.specs.Ordering.{nat_cmp, ordering_then, ordering_reverse, is_lt, is_eq, is_gt}
use Rattle.std.specs.Str.{bytes_eq}
use Rattle.std.proofs.lemmas.Cmp.{then_total, on_total, nat_cmp_total, nat_list_cmp_total, tied_itself, upto}
use Rattle.std.proofs.lemmas.List.Sorted.{IsPermutation-refl, IsPermutation-trans, IsPermutation-cons, IsPermutation-middle, IsPermutation-map, sum_by-IsPermutation}
use Rattle.std.specs.List.Sorted.{IsSortedBy}
use Rattle.std.proofs.lemmas.List.Recursion.{is_count_by}
use Rattle.std.proofs.lemmas.List.Sorted.{Contains-permutation, IsPermutation-sym}
use Rattle.std.proofs.lemmas.Map.Text.{is_eq-slice_cmp}
use Rattle.std.proofs.lemmas.Slice.Eq.{bytes_eq-Decides}
use Rattle.spec.specs.DagCbor.{is_key_below}
use Rattle.record_json.specs.KeyOrder.{key_cmp, insert, in_order, keys_of, doubled_key}

abbrev Key : Type 0
Key = List ℕ

pub key_total : IsTotalOrder key_cmp
key_total = then_total (on_total (λ (k : Key). length k) nat_cmp_total) nat_list_cmp_total

-- ---- the order, and `is_key_below`

below_by : (a b : ℕ) (o : Ordering) → (ltb a b || (eqb a b && is_lt o)) ≡ is_lt (ordering_then (nat_cmp a b) o)
below_by a b o = by_case (ltb a b) (eqb a b) o
  where
    by_case : (s t : Bool) (o : Ordering) → (s || (t && is_lt o)) ≡ is_lt (ordering_then (cond s Less (cond t Equal Greater)) o)
    by_case true t o = refl
    by_case false true o = refl
    by_case false false o = refl

pub is_key_below-is : (a b : Key) → is_key_below a b ≡ is_lt (key_cmp a b)
is_key_below-is a b = below_by (length a) (length b) (slice_cmp nat_cmp a b)

tie_of_both : (a b : Ordering) → ordering_then a b ≡ Equal → b ≡ Equal
tie_of_both Less b e = absurd cc
tie_of_both Equal b e = e
tie_of_both Greater b e = absurd cc

pub same_key : (a b : Key) → key_cmp a b ≡ Equal → a ≡ b
same_key a b tie = (bytes_eq-Decides a b).0 (sym (is_eq-slice_cmp a b) ∙ ap is_eq (tie_of_both (nat_cmp (length a) (length b)) (slice_cmp nat_cmp a b) tie))

not_less_twice : (o p : Ordering) → o ≡ ordering_reverse p → is_lt o ≡ false → is_lt p ≡ false → o ≡ Equal
not_less_twice o Less e f g = absurd cc
not_less_twice o Equal e f g = e
not_less_twice o Greater e f g = absurd cc

pub same_rank : (a b : Key) → is_key_below a b ≡ false → is_key_below b a ≡ false → a ≡ b
same_rank a b p q = same_key a b (not_less_twice (key_cmp a b) (key_cmp b a) (key_total.antisymm a b) (sym (is_key_below-is a b) ∙ p) (sym (is_key_below-is b a) ∙ q))

flipped : (o p : Ordering) → o ≡ ordering_reverse p → is_lt p ≡ true → is_lt o ≡ false
flipped o Less e f = ap is_lt e
flipped o Equal e f = absurd cc
flipped o Greater e f = absurd cc

pub not_above : (a b : Key) → is_key_below a b ≡ true → is_key_below b a ≡ false
not_above a b p = is_key_below-is b a ∙ flipped (key_cmp b a) (key_cmp a b) (key_total.antisymm b a) (sym (is_key_below-is a b) ∙ p)

-- not above, twice
not_gt : (o p : Ordering) → o ≡ ordering_reverse p → is_lt p ≡ false → is_gt o ≡ false
not_gt o Less e f = absurd cc
not_gt o Equal e f = ap is_gt e
not_gt o Greater e f = ap is_gt e

not_lt : (o p : Ordering) → o ≡ ordering_reverse p → is_gt o ≡ false → is_lt p ≡ false
not_lt o Less e f = absurd (let g = ap is_gt (sym e) ∙ f in cc)
not_lt o Equal e f = refl
not_lt o Greater e f = refl

-- a stands before b or has its rank
abbrev pub IsUpTo : Key → Key → Type 0
IsUpTo a b = is_key_below b a ≡ false

pub IsUpTo-trans : (a b c : Key) → IsUpTo a b → IsUpTo b c → IsUpTo a c
IsUpTo-trans a b c p q =
    let ab = not_gt (key_cmp a b) (key_cmp b a) (key_total.antisymm a b) (sym (is_key_below-is b a) ∙ p) in
    let bc = not_gt (key_cmp b c) (key_cmp c b) (key_total.antisymm b c) (sym (is_key_below-is c b) ∙ q) in
    is_key_below-is c a ∙ not_lt (key_cmp a c) (key_cmp c a) (key_total.antisymm a c) (upto key_total a b c ab bc)

-- ---- keys in order

-- none of the keys stands before k
abbrev pub AreFrom : Key → List Key → Type 0
AreFrom k [] = ⊤
AreFrom k (x ∷ xs) = IsUpTo k x × AreFrom k xs

abbrev pub AreInOrder : List Key → Type 0
AreInOrder [] = ⊤
AreInOrder (x ∷ xs) = AreFrom x xs × AreInOrder xs

AreFrom-before : (a b : Key) (xs : List Key) → IsUpTo a b → AreFrom b xs → AreFrom a xs
AreFrom-before a b [] p all = tt
AreFrom-before a b (x ∷ xs) p all = (IsUpTo-trans a b x p all.0, AreFrom-before a b xs p all.1)

abbrev once : Bool → ℕ
once true = 1
once false = 0

-- how often a key comes
abbrev count : Key → List Key → ℕ
count k [] = 0
count k (x ∷ xs) = once (bytes_eq k x) + count k xs

IsUpTo-itself : (k : Key) → IsUpTo k k
IsUpTo-itself k = is_key_below-is k k ∙ ap is_lt (tied_itself key_total k)

-- a key that comes is none of those that stand before all
from_counted : (k x : Key) (ys : List Key) → AreFrom x ys → 0 < count k ys → IsUpTo x k
from_counted k x [] all some = absurd (omega arith)
from_counted k x (y ∷ ys) all some = here (bytes_eq k y) refl (from_counted k x ys all.1)
  where
    here : (t : Bool) → bytes_eq k y ≡ t → (0 < count k ys → IsUpTo x k) → IsUpTo x k
    here true e later = subst (λ (z : Key). IsUpTo x z) (sym ((bytes_eq-Decides k y).0 e)) all.0
    here false e later = later (omega (arith, ap once e))

counted_itself : (x : Key) (xs : List Key) → 0 < count x (x ∷ xs)
counted_itself x xs = omega (arith, ap once ((bytes_eq-Decides x x).1 refl))

-- lists in order that have the same keys, each as often, are one list
pub same_keys : (xs ys : List Key) → AreInOrder xs → AreInOrder ys → ((k : Key) → count k xs ≡ count k ys) → xs ≡ ys
same_keys [] [] p q same = refl
same_keys [] (y ∷ ys) p q same = absurd (omega (arith, same y, counted_itself y ys))
same_keys (x ∷ xs) [] p q same = absurd (omega (arith, same x, counted_itself x xs))
same_keys (x ∷ xs) (y ∷ ys) p q same =
    let y_first : IsUpTo y x = from_counted x y (y ∷ ys) (IsUpTo-itself y, q.0) (omega (arith, same x, counted_itself x xs)) in
    let x_first : IsUpTo x y = from_counted y x (x ∷ xs) (IsUpTo-itself x, p.0) (omega (arith, same y, counted_itself y ys)) in
    let is : x ≡ y = same_rank x y y_first x_first in
    let rest : (k : Key) → count k xs ≡ count k ys = λ k. omega (arith, same k, ap (λ (z : Key). once (bytes_eq k z)) is) in
    ap (λ (z : Key). z ∷ xs) is ∙ ap (λ (zs : List Key). y ∷ zs) (same_keys xs ys p.1 q.1 rest)

-- ---- members in order

AreFrom-insert : {X : Type 0} → (k : Key) (m : Key × X) (ns : List (Key × X)) → IsUpTo k m.0 → AreFrom k (keys_of ns) → AreFrom k (keys_of (insert m ns))
AreFrom-insert k m [] up all = (up, tt)
AreFrom-insert {X} k m (n ∷ ns) up all = by_case (is_key_below n.0 m.0) (AreFrom-insert k m ns up all.1)
  where
    by_case : (t : Bool) → AreFrom k (keys_of (insert m ns)) → AreFrom k (keys_of (cond t (n ∷ insert m ns) (m ∷ n ∷ ns)))
    by_case true later = (all.0, later)
    by_case false later = (up, all)

AreInOrder-insert : {X : Type 0} → (m : Key × X) (ns : List (Key × X)) → AreInOrder (keys_of ns) → AreInOrder (keys_of (insert m ns))
AreInOrder-insert m [] are = (tt, tt)
AreInOrder-insert {X} m (n ∷ ns) are = by_case (is_key_below n.0 m.0) refl (AreInOrder-insert m ns are.1)
  where
    by_case : (t : Bool) → is_key_below n.0 m.0 ≡ t → AreInOrder (keys_of (insert m ns)) → AreInOrder (keys_of (cond t (n ∷ insert m ns) (m ∷ n ∷ ns)))
    by_case true e later = (AreFrom-insert n.0 m ns (not_above n.0 m.0 e) are.0, later)
    by_case false e later = ((e, AreFrom-before m.0 n.0 (keys_of ns) e are.0), are)

pub AreInOrder-in_order : {X : Type 0} → (ms : List (Key × X)) → AreInOrder (keys_of (in_order ms))
AreInOrder-in_order [] = tt
AreInOrder-in_order (m ∷ ms) = AreInOrder-insert m (in_order ms) (AreInOrder-in_order ms)

IsPermutation-inserted : {X : Type 0} → (m : Key × X) (ns : List (Key × X)) → IsPermutation (m ∷ ns) (insert m ns)
IsPermutation-inserted m [] = IsPermutation-refl (m ∷ [])
IsPermutation-inserted {X} m (n ∷ ns) = by_case (is_key_below n.0 m.0) (IsPermutation-inserted m ns)
  where
    by_case : (t : Bool) → IsPermutation (m ∷ ns) (insert m ns) → IsPermutation (m ∷ n ∷ ns) (cond t (n ∷ insert m ns) (m ∷ n ∷ ns))
    by_case true later = IsPermutation-trans _ _ _ (IsPermutation-middle (m ∷ []) n ns) (IsPermutation-cons n _ _ later)
    by_case false later = IsPermutation-refl (m ∷ n ∷ ns)

pub IsPermutation-in_order : {X : Type 0} → (ms : List (Key × X)) → IsPermutation ms (in_order ms)
IsPermutation-in_order [] = IsPermutation-refl []
IsPermutation-in_order (m ∷ ms) = IsPermutation-trans _ _ _ (IsPermutation-cons m _ _ (IsPermutation-in_order ms)) (IsPermutation-inserted m (in_order ms))

-- ---- there is one order

once_more : (t : Bool) (n : ℕ) → once t + n ≡ cond t (1 + n) n
once_more true n = refl
once_more false n = omega arith

same_counts : (k : Key) (xs ys : List Key) → IsPermutation xs ys → count k xs ≡ count k ys
same_counts k xs ys moved =
    let counted : (zs : List Key) → count k zs ≡ count_by (bytes_eq k) zs = is_count_by (count k) (bytes_eq k) refl (λ z zs. once_more (bytes_eq k z) (count k zs)) in
    counted xs ∙ sym (sum_by-IsPermutation (λ z. cond (bytes_eq k z) 1 0) xs ys moved) ∙ sym (counted ys)

-- each of the keys stands behind k
abbrev AreBehind : Key → List Key → Type 0
AreBehind k [] = ⊤
AreBehind k (x ∷ xs) = (is_key_below k x ≡ true) × AreBehind k xs

abbrev Ascend : List Key → Type 0
Ascend [] = ⊤
Ascend (x ∷ xs) = AreBehind x xs × Ascend xs

behind_by : (x y : Key) (t : Bool) → is_key_below x y ≡ t → IsUpTo x y → bytes_eq x y ≡ false → is_key_below x y ≡ true
behind_by x y true e up other = e
behind_by x y false e up other = let same = (bytes_eq-Decides x y).1 (same_rank x y e up) in absurd cc

behind_later : (x y z : Key) (t : Bool) → is_key_below x z ≡ t → is_key_below x y ≡ true → IsUpTo y z → is_key_below x z ≡ true
behind_later x y z true e below up = e
behind_later x y z false e below up = let back = IsUpTo-trans y z x up e in absurd cc

AreBehind-from : (x y : Key) (zs : List Key) → is_key_below x y ≡ true → AreFrom y zs → AreBehind x zs
AreBehind-from x y [] below all = tt
AreBehind-from x y (z ∷ zs) below all = (behind_later x y z (is_key_below x z) refl below all.0, AreBehind-from x y zs below all.1)

pub Ascend-in_order : (xs : List Key) → AreInOrder xs → doubled_key xs ≡ None → Ascend xs
Ascend-in_order [] are none = tt
Ascend-in_order (x ∷ []) are none = (tt, tt)
Ascend-in_order (x ∷ y ∷ ys) are none = by_case (bytes_eq x y) refl none (Ascend-in_order (y ∷ ys) are.1)
  where
    by_case : (t : Bool) → bytes_eq x y ≡ t → cond t (Some x) (doubled_key (y ∷ ys)) ≡ None → (doubled_key (y ∷ ys) ≡ None → Ascend (y ∷ ys)) → Ascend (x ∷ y ∷ ys)
    by_case true e none later = absurd cc
    by_case false e none later =
        let below = behind_by x y (is_key_below x y) refl are.0.0 e in ((below, AreBehind-from x y ys below are.1.0), later none)

first_or_later : {X : Type 0} (y : X) (ys : List X) (x : X) → Contains (y ∷ ys) x → (y ≡ x) ⊎ Contains ys x
first_or_later y ys x (zero, lt, e) = inl e
first_or_later y ys x (suc k, lt, e) = inr (k, omega arith, e)

later : {X : Type 0} (y : X) (ys : List X) (x : X) → Contains ys x → Contains (y ∷ ys) x
later y ys x h = (suc h.0, omega (arith, h.1), h.2)

behind_each : {X : Type 0} (k : Key) (ms : List (Key × X)) (m : Key × X) → AreBehind k (keys_of ms) → Contains ms m → is_key_below k m.0 ≡ true
behind_each k [] m all h = absurd (omega (arith, h.1))
behind_each k (n ∷ ns) m all h = elim (first_or_later n ns m h) [ inl e ↦ ap (λ x. is_key_below k x.0) (sym e) ∙ all.0 | inr rest ↦ behind_each k ns m all.1 rest ]

pub not_below_itself : (k : Key) → is_key_below k k ≡ true → ⊥
not_below_itself k e = let f = IsUpTo-itself k in cc

-- members with the same keys, which ascend, are the same where each one comes among the others
same_members : {X : Type 0} (ms ns : List (Key × X)) → keys_of ms ≡ keys_of ns → Ascend (keys_of ms) → ((m : Key × X) → Contains ms m → Contains ns m) → ms ≡ ns
same_members [] [] same up all = refl
same_members [] (n ∷ ns) same up all = absurd cc
same_members (m ∷ ms) [] same up all = absurd cc
same_members {X} (m ∷ ms) (n ∷ ns) same up all =
    let key : m.0 ≡ n.0 = cc in
    let keys : keys_of ms ≡ keys_of ns = cc in
    let behind : AreBehind n.0 (keys_of ns) = subst (λ ks. AreBehind n.0 ks) keys (subst (λ k. AreBehind k (keys_of ms)) key up.0) in
    let first : n ≡ m = elim (first_or_later n ns m (all m (0, omega arith, refl))) [
      | inl e ↦ e
      | inr rest ↦ absurd (not_below_itself n.0 (ap (λ k. is_key_below n.0 k) (sym key) ∙ behind_each n.0 ns m behind rest))
    ] in
    let rest : (x : Key × X) → Contains ms x → Contains ns x = λ x h. elim (first_or_later n ns x (all x (later m ms x h))) [
      | inl e ↦ absurd (not_below_itself m.0 (ap (λ (y : Key × X). is_key_below m.0 y.0) (sym first ∙ e) ∙ behind_each m.0 ms x up.0 h))
      | inr inside ↦ inside
    ] in
    ap (λ x. x ∷ ms) (sym first) ∙ ap (λ xs. n ∷ xs) (same_members ms ns keys up.1 rest)

pub same_keys_in_order : {X : Type 0} (ms ns : List (Key × X)) → IsPermutation ms ns → AreInOrder (keys_of ns) → keys_of ns ≡ keys_of (in_order ms)
same_keys_in_order {X} ms ns moved are =
    let key : Key × X → Key = λ m. m.0 in
    same_keys (keys_of ns) (keys_of (in_order ms)) are (AreInOrder-in_order ms)
    (λ k. sym (same_counts k (keys_of ms) (keys_of ns) (IsPermutation-map key ms ns moved)) ∙ same_counts k (keys_of ms) (keys_of (in_order ms)) (IsPermutation-map key ms (in_order ms) (IsPermutation-in_order ms)))

pub one_order : {X : Type 0} (ms ns : List (Key × X)) → IsPermutation ms ns → AreInOrder (keys_of ns) → doubled_key (keys_of ns) ≡ None → ns ≡ in_order ms
one_order ms ns moved are none =
    same_members ns (in_order ms) (same_keys_in_order ms ns moved are) (Ascend-in_order (keys_of ns) are none)
    (λ m h. Contains-permutation ms (in_order ms) m (IsPermutation-in_order ms) (Contains-permutation ns ms m (IsPermutation-sym ms ns moved) h))

-- what a sort by the order of keys leaves, by its closure
pub by_key_order : {F T : Type 0} (key : T → Key) {g : Mut F (Bor T × (Bor T × Unit {0})) Ordering} {f : F} (ts : List T)
    → ((lt : T → T → Bool) → IsStrictWeakOrder lt → ComparesAs g lt f → IsSortedBy lt ts)
    → ((a : Bor T × (Bor T × Unit {0})) (r : Ordering) (f' : F) → Called g f a r f' → (r ≡ key_cmp (key a.0.now) (key a.1.0.now)) × (f' ≡ f))
    → IsSortedBy (λ x y. is_lt (key_cmp (key x) (key y))) ts
by_key_order key {g = g} {f = f} ts up h =
    up (λ x y. is_lt (key_cmp (key x) (key y))) (ranks_by key_total key)
    (always_returns_same g (λ a r. is_lt r ≡ is_lt (key_cmp (key a.0.now) (key a.1.0.now))) f (λ a r f' k. (ap is_lt (h a r f' k).0, (h a r f' k).1)))

pub AreInOrder-sorted : {T : Type 0} (key : T → Key) (ts : List T) → IsSortedBy (λ a b. is_lt (key_cmp (key a) (key b))) ts → AreInOrder (map key ts)
AreInOrder-sorted key [] up = tt
AreInOrder-sorted key (t ∷ []) up = (tt, tt)
AreInOrder-sorted key (t ∷ u ∷ us) up =
    let rest = AreInOrder-sorted key (u ∷ us) (λ k d from within.
    let next : suc k + 1 ≡ suc (k + 1) = omega arith in
    subst (λ (n : ℕ). is_lt (key_cmp (key (get_or (t ∷ u ∷ us) n d)) (key (get_or (u ∷ us) k d))) ≡ false) next (up (suc k) d (omega arith) (omega arith))) in
    let first : IsUpTo (key t) (key u) = is_key_below-is (key u) (key t) ∙ up 0 t (omega arith) (omega arith) in
    ((first, AreFrom-before (key t) (key u) (map key us) first rest.0), rest)

-- ---- keys that come twice

pub doubled_key-at : (ks : List Key) (i : ℕ) (d : Key) → suc i < length ks
    → doubled_key (drop i ks) ≡ cond (bytes_eq (get_or ks i d) (get_or ks (suc i) d)) (Some (get_or ks i d)) (doubled_key (drop (suc i) ks))
doubled_key-at [] i d lt = absurd (omega arith)
doubled_key-at (k ∷ []) i d lt = absurd (omega arith)
doubled_key-at (k ∷ l ∷ ls) zero d lt = refl
doubled_key-at (k ∷ l ∷ ls) (suc i) d lt = doubled_key-at (l ∷ ls) i d (omega arith)

pub doubled_key-end : (ks : List Key) (i : ℕ) → length ks ≤ suc i → doubled_key (drop i ks) ≡ None
doubled_key-end [] zero few = refl
doubled_key-end [] (suc i) few = refl
doubled_key-end (k ∷ []) zero few = refl
doubled_key-end (k ∷ []) (suc i) few = doubled_key-end [] i (omega arith)
doubled_key-end (k ∷ l ∷ ls) zero few = absurd (omega arith)
doubled_key-end (k ∷ l ∷ ls) (suc i) few = doubled_key-end (l ∷ ls) i (omega arith)

-- ---- what stands at the keys

insert-map : {X Y : Type 0} (f : X → Y) (m : Key × X) (ns : List (Key × X)) → insert (m.0, f m.1) (map (λ p. (p.0, f p.1)) ns) ≡ map (λ p. (p.0, f p.1)) (insert m ns)
insert-map f m [] = refl
insert-map {X} {Y} f m (n ∷ ns) = by_case (is_key_below n.0 m.0) (insert-map f m ns)
  where
    by_case : (t : Bool) → insert (m.0, f m.1) (map (λ p. (p.0, f p.1)) ns) ≡ map (λ p. (p.0, f p.1)) (insert m ns)
        → cond t ((n.0, f n.1) ∷ insert (m.0, f m.1) (map (λ p. (p.0, f p.1)) ns)) ((m.0, f m.1) ∷ (n.0, f n.1) ∷ map (λ p. (p.0, f p.1)) ns)
        ≡ map (λ p. (p.0, f p.1)) (cond t (n ∷ insert m ns) (m ∷ n ∷ ns))
    by_case true e = ap (λ rest. (n.0, f n.1) ∷ rest) e
    by_case false e = refl

pub in_order-map : {X Y : Type 0} (f : X → Y) (ms : List (Key × X)) → in_order (map (λ p. (p.0, f p.1)) ms) ≡ map (λ p. (p.0, f p.1)) (in_order ms)
in_order-map f [] = refl
in_order-map f (m ∷ ms) = ap (insert (m.0, f m.1)) (in_order-map f ms) ∙ insert-map f m (in_order ms)

-- the keys of things, two neighbours of which have one key, or have not
module _ {T : Type 0} (key : T → Key) (ts : List T) (i : ℕ) (a b : T) (some : 1 ≤ i) (lt : i < length ts) (before : a ≡ get_or ts (i - 1) a) (here : b ≡ get_or ts i b) where
  at_neighbours : doubled_key (drop (i - 1) (map key ts)) ≡ cond (bytes_eq (key a) (key b)) (Some (key a)) (doubled_key (drop i (map key ts)))
  at_neighbours =
      let ks = map key ts in
      let next : suc (i - 1) ≡ i = omega arith in
      let first : get_or ks (i - 1) [] ≡ key a = get_or-map key ts (i - 1) a [] (omega arith) ∙ ap key (sym before) in
      let second : get_or ks (suc (i - 1)) [] ≡ key b = ap (λ (n : ℕ). get_or ks n []) next ∙ get_or-map key ts i b [] lt ∙ ap key (sym here) in
      doubled_key-at ks (i - 1) [] (omega (arith, length-map ts key))
      ∙ ap (λ (k : Key). cond (bytes_eq k (get_or ks (suc (i - 1)) [])) (Some k) (doubled_key (drop (suc (i - 1)) ks))) first
      ∙ ap (λ (k : Key). cond (bytes_eq (key a) k) (Some (key a)) (doubled_key (drop (suc (i - 1)) ks))) second
      ∙ ap (λ (n : ℕ). cond (bytes_eq (key a) (key b)) (Some (key a)) (doubled_key (drop n ks))) next

  pub doubled_key-found : bytes_eq (key a) (key b) ≡ true → doubled_key (drop (i - 1) (map key ts)) ≡ Some (key a)
  doubled_key-found same = at_neighbours ∙ cond-true (bytes_eq (key a) (key b)) (Some (key a)) (doubled_key (drop i (map key ts))) same

  pub doubled_key-later : bytes_eq (key a) (key b) ≡ false → doubled_key (drop (i - 1) (map key ts)) ≡ doubled_key (drop (i + 1 - 1) (map key ts))
  doubled_key-later differ =
      let back : i ≡ i + 1 - 1 = omega arith in
      at_neighbours ∙ cond-false (bytes_eq (key a) (key b)) (Some (key a)) (doubled_key (drop i (map key ts))) differ ∙ ap (λ (n : ℕ). doubled_key (drop n (map key ts))) back

pub doubled_key-none : {T : Type 0} (key : T → Key) (ts : List T) (i : ℕ) → length ts ≤ i → 1 ≤ i → doubled_key (drop (i - 1) (map key ts)) ≡ None
doubled_key-none key ts i few some = doubled_key-end (map key ts) (i - 1) (omega (arith, length-map ts key))

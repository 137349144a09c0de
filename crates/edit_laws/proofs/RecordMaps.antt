-- The pairs of an edit are those of the standard library's sorted lists, and of record maps.
use Rattle.std.proofs.Common.{◌≡◌, ℕ, Bool, true, false, not, List, [], ◌∷◌, None, refl, sym, ap, ◌∙◌}
use Rattle.std.specs.Str.{bytes_eq}
use Rattle.std.specs.Ordering.{nat_cmp, is_lt, ordering_reverse}
use Rattle.std.specs.Cmp.Lexicographic.{slice_cmp}
use Rattle.std.specs.declared.cmp.Ordering.{Ordering}
use Rattle.std.specs.declared.cmp.Ordering.TheVariants.{Less, Equal, Greater}
use Rattle.std.specs.FinMap.{is_sorted, find, put}
use Rattle.std.specs.FinMap.Entries.{below_all, where_key}
use Rattle.std.proofs.lemmas.Cmp.{nat_list_cmp_total}
use Rattle.std.proofs.lemmas.Slice.Eq.{bytes_eq-Decides}
use Rattle.spec.specs.Tree.{Pair}
use Rattle.spec.proofs.NodeLaws.{both}
use Rattle.edit_laws.specs.Order.{order}
use Rattle.edit_laws.specs.Pairs.{Each, IsAfter, Ascending, put_first, put_pair, delete_first, delete_pair, value_first, value_in}
use Rattle.edit_laws.proofs.Around.{all-after-trans, all-after-same}
use Rattle.edit_laws.proofs.Orders.{order-equal, turned_back, order-same, order-is}

-- the same order the other way round
other_way : (x y : List ℕ) (o : Ordering) → order x y ≡ o → slice_cmp nat_cmp y x ≡ ordering_reverse o
other_way x y o h = nat_list_cmp_total.antisymm y x ∙ ap ordering_reverse (order-is x y ∙ h)

-- ---- ascending

pub less_is : (r : Ordering) → is_lt r ≡ true → r ≡ Less
less_is Less h = refl
less_is Equal h = absurd cc
less_is Greater h = absurd cc

after-below_all : (k : List ℕ) (es : List Pair) → below_all (slice_cmp nat_cmp) k es ≡ true → Each (IsAfter k) es
after-below_all k [] h = tt
after-below_all k (e ∷ es) h =
    let p = both (is_lt (slice_cmp nat_cmp k e.0)) (below_all (slice_cmp nat_cmp) k es) h in
    (turned_back k e.0 (sym (order-is k e.0) ∙ less_is _ p.0), after-below_all k es p.1)

pub ascending-sorted : (es : List Pair) → is_sorted (slice_cmp nat_cmp) es ≡ true → Ascending es
ascending-sorted [] h = tt
ascending-sorted (e ∷ es) h =
    let p = both (below_all (slice_cmp nat_cmp) e.0 es) (is_sorted (slice_cmp nat_cmp) es) h in
    (after-below_all e.0 es p.0, ascending-sorted es p.1)

-- ---- put

put-case : (p e : Pair) (es : List Pair) (o : Ordering) → order e.0 p.0 ≡ o
    → put (slice_cmp nat_cmp) p.0 p.1 es ≡ put_pair p es
    → put (slice_cmp nat_cmp) p.0 p.1 (e ∷ es) ≡ put_first o p e es (put_pair p es)
put-case p e es Less h i = rw (other_way e.0 p.0 Less h) (ap (λ t. e ∷ t) i)
put-case p e es Equal h i = rw (other_way e.0 p.0 Equal h) (ap (λ k. (k, p.1) ∷ es) (order-equal e.0 p.0 h))
put-case p e es Greater h i = rw (other_way e.0 p.0 Greater h) refl

pub put-is : (p : Pair) (es : List Pair) → put (slice_cmp nat_cmp) p.0 p.1 es ≡ put_pair p es
put-is p [] = refl
put-is p (e ∷ es) = put-case p e es (order e.0 p.0) refl (put-is p es)

-- ---- find

find-after : (key : List ℕ) (es : List Pair) → Each (IsAfter key) es → find (slice_cmp nat_cmp) key es ≡ None
find-after key [] h = refl
find-after key (e ∷ es) h = rw (other_way e.0 key Greater h.0) (find-after key es h.1)

find-case : (key : List ℕ) (e : Pair) (es : List Pair) (o : Ordering) → order e.0 key ≡ o → Each (IsAfter e.0) es
    → find (slice_cmp nat_cmp) key es ≡ value_in key es
    → find (slice_cmp nat_cmp) key (e ∷ es) ≡ value_first o e (value_in key es)
find-case key e es Less h a i = rw (other_way e.0 key Less h) i
find-case key e es Equal h a i = rw (other_way e.0 key Equal h) refl
find-case key e es Greater h a i = rw (other_way e.0 key Greater h) (find-after key es (all-after-trans key e.0 es h a))

pub find-is : (key : List ℕ) (es : List Pair) → Ascending es → find (slice_cmp nat_cmp) key es ≡ value_in key es
find-is key [] h = refl
find-is key (e ∷ es) h = find-case key e es (order e.0 key) refl h.0 (find-is key es h.1)

-- ---- delete

not-same : (key k : List ℕ) (t : Bool) → bytes_eq key k ≡ t → (order k key ≡ Equal → ⊥) → t ≡ false
not-same key k true h n = absurd (n (ap (λ x. order x key) (sym ((bytes_eq-Decides key k).0 h)) ∙ order-same key))
not-same key k false h n = refl

differs : (key k : List ℕ) → (order k key ≡ Equal → ⊥) → bytes_eq key k ≡ false
differs key k n = not-same key k (bytes_eq key k) refl n

without-after : (key : List ℕ) (es : List Pair) → Each (IsAfter key) es
    → where_key (slice_cmp nat_cmp) (λ k. not (bytes_eq key k)) es ≡ es
without-after key [] h = refl
without-after key (e ∷ es) h =
    rw (differs key e.0 (λ q. let c : Greater ≡ Equal = sym h.0 ∙ q in cc))
    (ap (λ t. e ∷ t) (without-after key es h.1))

without-case : (key : List ℕ) (e : Pair) (es : List Pair) (o : Ordering) → order e.0 key ≡ o → Each (IsAfter e.0) es
    → where_key (slice_cmp nat_cmp) (λ k. not (bytes_eq key k)) es ≡ delete_pair key es
    → where_key (slice_cmp nat_cmp) (λ k. not (bytes_eq key k)) (e ∷ es) ≡ delete_first o e es (delete_pair key es)
without-case key e es Less h a i =
    rw (differs key e.0 (λ q. let c : Less ≡ Equal = sym h ∙ q in cc)) (ap (λ t. e ∷ t) i)
without-case key e es Equal h a i =
    let s : bytes_eq key e.0 ≡ true = (bytes_eq-Decides key e.0).1 (sym (order-equal e.0 key h)) in
    rw s (without-after key es (all-after-same key e.0 es h a))
without-case key e es Greater h a i =
    rw (differs key e.0 (λ q. let c : Greater ≡ Equal = sym h ∙ q in cc))
    (ap (λ t. e ∷ t) (without-after key es (all-after-trans key e.0 es h a)))

pub delete-is : (key : List ℕ) (es : List Pair) → Ascending es
    → where_key (slice_cmp nat_cmp) (λ k. not (bytes_eq key k)) es ≡ delete_pair key es
delete-is key [] h = refl
delete-is key (e ∷ es) h = without-case key e es (order e.0 key) refl h.0 (delete-is key es h.1)

-- Keys ascend strictly exactly where each is greater than the one before it.
use Rattle.std.proofs.Common.{◌≡◌, ℕ, Bool, true, false, ◌&&◌, List, [], ◌∷◌, Some, refl, sym, ap, ◌∙◌}
use Rattle.std.specs.List.{list_all}
use Rattle.std.specs.Cmp.Lexicographic.{slice_cmp, slice_partial_cmp}
use Rattle.std.specs.Ordering.{nat_cmp, is_lt, is_some_and, MatchOrdering, ordering_then}
use Rattle.std.specs.declared.cmp.Ordering.{Ordering}
use Rattle.std.specs.declared.cmp.Ordering.TheVariants.{Less, Equal, Greater}
use Rattle.std.specs.FinMap.{is_sorted}
use Rattle.std.specs.FinMap.Entries.{below_all}
use Rattle.std.proofs.lemmas.Cmp.{nat_list_cmp_total, same_from_slice_cmp_tested}
use Rattle.spec.specs.Tree.{Pair}
use Rattle.spec.specs.NodeFormat.{is_key, is_ascending}
use Rattle.spec.proofs.Bools.{both, and}

-- from the key before on
abbrev pub ascends : List ℕ → List Pair → Bool
ascends before [] = true
ascends before (e ∷ es) = is_lt (slice_cmp nat_cmp before e.0) && is_key e.0 && ascends e.0 es

same_tests : (a b : Bool) → (a ≡ true → b ≡ true) → (b ≡ true → a ≡ true) → a ≡ b
same_tests true b h k = sym (h refl)
same_tests false true h k = k refl
same_tests false false h k = refl

less_of : (o : Ordering) → is_lt o ≡ true → o ≡ Less
less_of Less h = refl
less_of Equal h = cc
less_of Greater h = cc

-- a smaller key is below as many
pub below-smaller : (a b : List ℕ) (es : List Pair) → is_lt (slice_cmp nat_cmp a b) ≡ true → below_all (slice_cmp nat_cmp) b es ≡ true → below_all (slice_cmp nat_cmp) a es ≡ true
below-smaller a b [] h k = refl
below-smaller a b (e ∷ es) h k =
    let p = both (is_lt (slice_cmp nat_cmp b e.0)) (below_all (slice_cmp nat_cmp) b es) k in
    and _ _ (ap is_lt (nat_list_cmp_total.trans a b e.0 (less_of _ h) (less_of _ p.0))) (below-smaller a b es h p.1)

-- a key that all are above, and keys of 1 to 1,024 bytes that ascend
pub record Rises (before : List ℕ) (es : List Pair) : Type 0 where
  pub below : below_all (slice_cmp nat_cmp) before es ≡ true
  pub sorted : is_sorted (slice_cmp nat_cmp) es ≡ true
  pub keys : list_all (λ e. is_key e.0) es ≡ true

-- the first pair left out, or one put in front
pub Rises-tail : (before : List ℕ) (e : Pair) (es : List Pair) → Rises before (e ∷ es) → Rises before es
Rises-tail before e es r =
    let below = both (is_lt (slice_cmp nat_cmp before e.0)) (below_all (slice_cmp nat_cmp) before es) r.below in
    let sorted = both (below_all (slice_cmp nat_cmp) e.0 es) (is_sorted (slice_cmp nat_cmp) es) r.sorted in
    let keys = both (is_key e.0) (list_all (λ x. is_key x.0) es) r.keys in
    record { below = below.1; sorted = sorted.1; keys = keys.1 }

pub Rises-cons : (before : List ℕ) (e : Pair) (es : List Pair) → is_lt (slice_cmp nat_cmp before e.0) ≡ true → is_key e.0 ≡ true → Rises e.0 es → Rises before (e ∷ es)
Rises-cons before e es less key r =
    record { below = and _ _ less (below-smaller before e.0 es less r.below); sorted = and _ _ r.below r.sorted; keys = and _ _ key r.keys }

pub Rises-ascends : (before : List ℕ) (es : List Pair) → ascends before es ≡ true → Rises before es
Rises-ascends before [] h = record { below = refl; sorted = refl; keys = refl }
Rises-ascends before (e ∷ es) h =
    let p = both (is_lt (slice_cmp nat_cmp before e.0) && is_key e.0) (ascends e.0 es) h in
    let q = both (is_lt (slice_cmp nat_cmp before e.0)) (is_key e.0) p.0 in
    Rises-cons before e es q.0 q.1 (Rises-ascends e.0 es p.1)

-- the first pair, and those after it
pub record Begins (before : List ℕ) (e : Pair) (es : List Pair) : Type 0 where
  pub less : is_lt (slice_cmp nat_cmp before e.0) ≡ true
  pub key : is_key e.0 ≡ true
  pub rest : Rises e.0 es

pub Begins-cons : (before : List ℕ) (e : Pair) (es : List Pair) → Rises before (e ∷ es) → Begins before e es
Begins-cons before e es r =
    let below = both (is_lt (slice_cmp nat_cmp before e.0)) (below_all (slice_cmp nat_cmp) before es) r.below in
    let sorted = both (below_all (slice_cmp nat_cmp) e.0 es) (is_sorted (slice_cmp nat_cmp) es) r.sorted in
    let keys = both (is_key e.0) (list_all (λ x. is_key x.0) es) r.keys in
    record { less = below.0; key = keys.0; rest = record { below = sorted.0; sorted = sorted.1; keys = keys.1 } }

ascends-Rises : (before : List ℕ) (es : List Pair) → Rises before es → ascends before es ≡ true
ascends-Rises before [] r = refl
ascends-Rises before (e ∷ es) r = let b = Begins-cons before e es r in and _ _ (and _ _ b.less b.key) (ascends-Rises e.0 es b.rest)

below-key : (key : List ℕ) → is_key key ≡ true → is_lt (slice_cmp nat_cmp [] key) ≡ true
below-key [] h = cc
below-key (x ∷ xs) h = refl

below-keys : (es : List Pair) → list_all (λ e. is_key e.0) es ≡ true → below_all (slice_cmp nat_cmp) [] es ≡ true
below-keys [] h = refl
below-keys (e ∷ es) h = let p = both (is_key e.0) (list_all (λ x. is_key x.0) es) h in and _ _ (below-key e.0 p.0) (below-keys es p.1)

pub Rises-ascending : (es : List Pair) → is_ascending es ≡ true → Rises [] es
Rises-ascending es h = let p = both (is_sorted (slice_cmp nat_cmp) es) (list_all (λ e. is_key e.0) es) h in record { below = below-keys es p.1; sorted = p.0; keys = p.1 }

pub ascending-Rises : (before : List ℕ) (es : List Pair) → Rises before es → is_ascending es ≡ true
ascending-Rises before es r = and _ _ r.sorted r.keys

-- the test goes from neighbour to neighbour
pub ascends-all : (es : List Pair) → is_ascending es ≡ ascends [] es
ascends-all es =
    same_tests (is_ascending es) (ascends [] es) (λ h. ascends-Rises [] es (Rises-ascending es h)) (λ h. ascending-Rises [] es (Rises-ascends [] es h))

-- ---- one key after another

less-more : (x y : ℕ) (xs ys : List ℕ) (o : Ordering) → o ≡ nat_cmp x y
    → MatchOrdering o (is_lt (slice_cmp nat_cmp (x ∷ xs) (y ∷ ys)) ≡ true) (is_lt (slice_cmp nat_cmp (x ∷ xs) (y ∷ ys)) ≡ is_lt (slice_cmp nat_cmp xs ys)) (is_lt (slice_cmp nat_cmp (x ∷ xs) (y ∷ ys)) ≡ false)
less-more x y xs ys Less e = ap (λ p. is_lt (ordering_then p (slice_cmp nat_cmp xs ys))) (sym e)
less-more x y xs ys Equal e = ap (λ p. is_lt (ordering_then p (slice_cmp nat_cmp xs ys))) (sym e)
less-more x y xs ys Greater e = ap (λ p. is_lt (ordering_then p (slice_cmp nat_cmp xs ys))) (sym e)

-- what `<` of two slices answers
pub less-test : (a b : List ℕ) (r : Bool) → r ≡ is_some_and is_lt (slice_partial_cmp (λ x y. Some (nat_cmp x y)) a b) → r ≡ is_lt (slice_cmp nat_cmp a b)
less-test = same_from_slice_cmp_tested nat_cmp is_lt (λ a b. is_lt (slice_cmp nat_cmp a b)) refl (λ y ys. refl) (λ x xs. refl) less-more

pub next-other : (a b : List ℕ) (r : Bool) → r ≡ is_lt (slice_cmp nat_cmp a b) → r ≡ false → r ≡ (is_lt (slice_cmp nat_cmp a b) && is_key b)
next-other a b r e f = f ∙ sym (ap (λ t. t && is_key b) (sym e ∙ f))

-- Pairs in order are known by the values of their keys; so undoing changes by which two lists differ gives the old one.
use Rattle.std.proofs.Common.{◌≡◌, ℕ, List, [], ◌∷◌, refl, sym, ap, subst, ◌∙◌, Option}
use Rattle.std.specs.declared.option.Option.TheVariants.{Some, None}
use Rattle.std.specs.declared.cmp.Ordering.{Ordering}
use Rattle.std.specs.declared.cmp.Ordering.TheVariants.{Less, Equal, Greater}
use Rattle.spec.specs.Tree.{Pair}
use Rattle.spec.specs.Blocks.{value_of}
use Rattle.edit_laws.specs.Order.{order}
use Rattle.edit_laws.specs.Pairs.{Each, IsAfter, Ascending, value_in}
use Rattle.edit_laws.proofs.Orders.{order-same, order-equal, turned, turned_back, after-trans}
use Rattle.edit_laws.proofs.RecordMaps.{find-is}

-- ---- pairs with the same values

-- no pair after a key has it, nor a lesser one
none-after : (key k : List ℕ) (es : List Pair) → Each (IsAfter k) es → (o : Ordering) → order k key ≡ o
    → (o ≡ Less → ⊥) → value_in key es ≡ None
none-after key k [] a o q h = refl
none-after key k (e ∷ es) a Less q h = absurd (h refl)
none-after key k (e ∷ es) a Equal q h =
    let same = order-equal k key q in
    rw (subst (λ x. order e.0 x ≡ Greater) same a.0) refl
none-after key k (e ∷ es) a Greater q h = rw (after-trans e.0 k key a.0 q) refl

first-is : (e : Pair) (es : List Pair) → value_in e.0 (e ∷ es) ≡ Some e.1
first-is e es = rw (order-same e.0) refl

some-is : {A : Type 0} (x y : A) → ◌≡◌ {A = Option A} (Some x) (Some y) → x ≡ y
some-is x y q = cc

none-some : {A B : Type 0} (x : A) → ◌≡◌ {A = Option A} None (Some x) → B
none-some x q = absurd cc

abbrev Same : List Pair → List Pair → Type 0
Same es fs = (key : List ℕ) → value_in key es ≡ value_in key fs

-- a first pair is missing where all others come after it
less-case : (e f : Pair) (es fs : List Pair) → order e.0 f.0 ≡ Less → Same (e ∷ es) (f ∷ fs) → ⊥
less-case e f es fs q same =
    let g : order f.0 e.0 ≡ Greater = turned_back e.0 f.0 q in
    let none : value_in e.0 (f ∷ fs) ≡ None = rw g refl in
    none-some e.1 (sym none ∙ sym (same e.0) ∙ first-is e es)

-- the values of the others
rest-case : (e f : Pair) (es fs : List Pair) (key : List ℕ) (o : Ordering) → order e.0 key ≡ o → e.0 ≡ f.0
    → Each (IsAfter e.0) es → Each (IsAfter f.0) fs → Same (e ∷ es) (f ∷ fs) → value_in key es ≡ value_in key fs
rest-case e f es fs key Less q k a b same =
    let r : order f.0 key ≡ Less = subst (λ x. order x key ≡ Less) k q in
    let left : value_in key (e ∷ es) ≡ value_in key es = rw q refl in
    let right : value_in key (f ∷ fs) ≡ value_in key fs = rw r refl in
    sym left ∙ same key ∙ right
rest-case e f es fs key Equal q k a b same =
    none-after key e.0 es a Equal q (λ h. absurd cc)
    ∙ sym (none-after key f.0 fs b Equal (subst (λ x. order x key ≡ Equal) k q) (λ h. absurd cc))
rest-case e f es fs key Greater q k a b same =
    none-after key e.0 es a Greater q (λ h. absurd cc)
    ∙ sym (none-after key f.0 fs b Greater (subst (λ x. order x key ≡ Greater) k q) (λ h. absurd cc))

first-case : (e f : Pair) (es fs : List Pair) (o : Ordering) → order e.0 f.0 ≡ o → Same (e ∷ es) (f ∷ fs)
    → e.0 ≡ f.0
first-case e f es fs Less q same = absurd (less-case e f es fs q same)
first-case e f es fs Equal q same = order-equal e.0 f.0 q
first-case e f es fs Greater q same =
    absurd (less-case f e fs es (turned e.0 f.0 q) (λ key. sym (same key)))

pair-is : (e f : Pair) → e.0 ≡ f.0 → e.1 ≡ f.1 → e ≡ f
pair-is e f q r = λ i. (q i, r i)

both-are : (e f : Pair) (es fs : List Pair) → e ≡ f → es ≡ fs → e ∷ es ≡ f ∷ fs
both-are e f es fs q r = λ i. q i ∷ r i

pairs-same : (es fs : List Pair) → Ascending es → Ascending fs → Same es fs → es ≡ fs
pairs-same [] [] a b same = refl
pairs-same [] (f ∷ fs) a b same = none-some f.1 (same f.0 ∙ first-is f fs)
pairs-same (e ∷ es) [] a b same = none-some e.1 (sym (same e.0) ∙ first-is e es)
pairs-same (e ∷ es) (f ∷ fs) a b same =
    let k = first-case e f es fs (order e.0 f.0) refl same in
    let v : e.1 ≡ f.1 = some-is e.1 f.1 (sym (first-is e es) ∙ same e.0
    ∙ ap (λ x. value_in x (f ∷ fs)) k ∙ first-is f fs) in
    both-are e f es fs (pair-is e f k v)
    (pairs-same es fs a.1 b.1 (λ key. rest-case e f es fs key (order e.0 key) refl k a.0 b.0 same))

-- pairs in order with the same values are the same
pub values-name : (es fs : List Pair) → Ascending es → Ascending fs
    → ((key : List ℕ) → value_of key es ≡ value_of key fs) → es ≡ fs
values-name es fs a b same =
    pairs-same es fs a b (λ key. sym (find-is key es a) ∙ same key ∙ find-is key fs b)

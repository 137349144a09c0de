-- The test of changes, from the last one on.
use Rattle.std.proofs.Common.{◌≡◌, ℕ, zero, suc, ◌+◌, ◌<◌, Bool, true, false, ◌&&◌, List, [], ◌∷◌, length, map, get_or, drop, refl, sym, ap, ◌∙◌, arith}
use Rattle.std.specs.declared.cmp.Ordering.{Ordering}
use Rattle.std.specs.declared.cmp.Ordering.TheVariants.{Less, Equal, Greater}
use Rattle.std.specs.Ordering.{is_gt}
use Rattle.std.proofs.Math.Seq.{drop-cons}
use Rattle.spec.specs.NodeFormat.{is_key}
use Rattle.spec.proofs.Bools.{both}
use Rattle.edit_laws.specs.Order.{order}
use Rattle.batch_laws.specs.Batch.{Change}
use Rattle.key_changes.specs.Keyed.{is_greater, are_later, are_ascending, have_keys, are_changes}
use Rattle.key_changes.proofs.Ascending.{greater-than, later-than, later-all, all-later}

all-true : (a b k d : Bool) → a ≡ true → b ≡ true → k ≡ true → d ≡ true → ((a && b) && (k && d)) ≡ true
all-true true true true true h i j l = refl
all-true false b k d h i j l = absurd cc
all-true true false k d h i j l = absurd cc
all-true true true false d h i j l = absurd cc
all-true true true true false h i j l = absurd cc

next-case : (c n : Change) (ns : List Change) (b : Bool) → are_changes (n ∷ ns) ≡ true → is_key c.0 ≡ true
    → is_greater (order n.0 c.0) ≡ b → b ≡ are_changes (c ∷ n ∷ ns)
next-case c n ns true h k g =
    let parts = both (are_ascending (n ∷ ns)) (have_keys (n ∷ ns)) h in
    let order_of = both (are_later n.0 ns) (are_ascending ns) parts.0 in
    let later = later-than c.0 n.0 ns (greater-than (order n.0 c.0) g) (later-all n.0 ns order_of.0) in
    let all : are_later c.0 (n ∷ ns) ≡ true = ap (λ x. x && are_later c.0 ns) g ∙ all-later c.0 ns later in
    sym (all-true (are_later c.0 (n ∷ ns)) (are_ascending (n ∷ ns)) (is_key c.0) (have_keys (n ∷ ns)) all parts.0 k parts.1)
next-case c n ns false h k g =
    sym (ap (λ x. ((x && are_later c.0 ns) && are_ascending (n ∷ ns)) && (is_key c.0 && have_keys (n ∷ ns))) g)

pub next-one : (c n : Change) (ns : List Change) (b : Bool) → are_changes (n ∷ ns) ≡ true → is_key c.0 ≡ true
    → b ≡ is_greater (order n.0 c.0) → b ≡ are_changes (c ∷ n ∷ ns)
next-one c n ns b h k g = g ∙ next-case c n ns (is_greater (order n.0 c.0)) h k refl

tail-case : (a b k d : Bool) → (b && d) ≡ false → ((a && b) && (k && d)) ≡ false
tail-case true true true true h = absurd cc
tail-case true true true false h = refl
tail-case true true false d h = refl
tail-case true false k d h = refl
tail-case false b k d h = refl

-- what some at the end aren't, all of them aren't
pub none-of : {X : Type 0} (seen : X → Change) (xs : List X) (i : ℕ) → are_changes (map seen (drop i xs)) ≡ false
    → are_changes (map seen xs) ≡ false
none-of seen xs zero h = h
none-of seen [] (suc i) h = absurd cc
none-of seen (x ∷ xs) (suc i) h =
    let cs = map seen xs in
    tail-case (are_later (seen x).0 cs) (are_ascending cs) (is_key (seen x).0) (have_keys cs) (none-of seen xs i h)

-- one more to the front
pub one-more : {X : Type 0} (seen : X → Change) (xs : List X) (i : ℕ) (x : X) (b : Bool) → i < length xs → x ≡ get_or xs i x
    → b ≡ are_changes (map seen (x ∷ drop (i + 1) xs)) → b ≡ are_changes (map seen (drop i xs))
one-more seen xs i x b l is h =
    let next : i + 1 ≡ suc i = omega arith in
    let e : drop i xs ≡ x ∷ drop (suc i) xs = drop-cons xs i x l ∙ ap (λ t. t ∷ drop (suc i) xs) (sym is) in
    h ∙ ap (λ n. are_changes (map seen (x ∷ drop n xs))) next ∙ sym (ap (λ ys. are_changes (map seen ys)) e)

pub gt-is : (o : Ordering) → is_gt o ≡ is_greater o
gt-is Less = refl
gt-is Equal = refl
gt-is Greater = refl

-- One more change behind others.
use Rattle.std.proofs.Common.{◌≡◌, ℕ, zero, suc, ◌-◌, ◌≤◌, Bool, true, false, ◌&&◌, List, [], ◌∷◌, ◌++◌, length, get_or, take, refl, sym, ap, subst, ◌∙◌, arith}
use Rattle.std.proofs.lemmas.List.{map-append}
use Rattle.spec.specs.NodeFormat.{is_key}
use Rattle.spec.proofs.Bools.{both}
use Rattle.edit_laws.specs.Order.{order}
use Rattle.batch_laws.specs.Batch.{Change}
use Rattle.key_changes.specs.Keyed.{are_ascending, are_changes, are_later, have_keys, is_greater}
use Rattle.change_laws.specs.Told.{KeyChange, undone}
use Rattle.key_changes.proofs.Testing.{next-one}

at-end : {X : Type 0} (xs : List X) (x : X) (n : ℕ) → length xs ≡ suc n → x ≡ get_or xs n x → xs ≡ take n xs ++ x ∷ []
at-end [] x n l e = absurd (omega (arith, l))
at-end (y ∷ []) x zero l e = ap (λ z. z ∷ []) (sym e)
at-end (y ∷ []) x (suc n) l e = absurd (omega (arith, l))
at-end (y ∷ z ∷ zs) x zero l e = absurd (omega (arith, l))
at-end (y ∷ z ∷ zs) x (suc n) l e = ap (λ ys. y ∷ ys) (at-end (z ∷ zs) x n (omega (arith, l)) e)

-- a list by its last element
pub front-last : {X : Type 0} (xs : List X) (x : X) → 1 ≤ length xs → x ≡ get_or xs (length xs - 1) x
    → xs ≡ take (length xs - 1) xs ++ x ∷ []
front-last xs x h e = at-end xs x (length xs - 1) (omega arith) e

tail-case : (a b k d : Bool) → (b && d) ≡ false → ((a && b) && (k && d)) ≡ false
tail-case true true true true h = absurd cc
tail-case true true true false h = refl
tail-case true true false d h = refl
tail-case true false k d h = refl
tail-case false b k d h = refl

-- what comes before others, comes before them and one more
cons-step : (x n : Change) (ns : List Change) (d : Change) (g : Bool) → are_changes (x ∷ n ∷ ns) ≡ true
    → g ≡ are_changes (n ∷ (ns ++ d ∷ [])) → g ≡ are_changes (x ∷ n ∷ (ns ++ d ∷ []))
cons-step x n ns d true h e =
    let parts = both (are_ascending (x ∷ n ∷ ns)) (have_keys (x ∷ n ∷ ns)) h in
    let orders = both (are_later x.0 (n ∷ ns)) (are_ascending (n ∷ ns)) parts.0 in
    let greater = both (is_greater (order n.0 x.0)) (are_later x.0 ns) orders.0 in
    let keys = both (is_key x.0) (have_keys (n ∷ ns)) parts.1 in
    next-one x n (ns ++ d ∷ []) true (sym e) keys.0 (sym greater.0)
cons-step x n ns d false h e =
    let ms = n ∷ (ns ++ d ∷ []) in
    sym (tail-case (are_later x.0 ms) (are_ascending ms) (is_key x.0) (have_keys ms) (sym e))

tail-of : (x : Change) (cs : List Change) → are_changes (x ∷ cs) ≡ true → are_changes cs ≡ true
tail-of x cs h =
    let parts = both (are_ascending (x ∷ cs)) (have_keys (x ∷ cs)) h in
    all (are_ascending cs) (have_keys cs) (both (are_later x.0 cs) (are_ascending cs) parts.0).1 (both (is_key x.0) (have_keys cs) parts.1).1
  where
    all : (a b : Bool) → a ≡ true → b ≡ true → (a && b) ≡ true
    all true true h i = refl
    all true false h i = absurd cc
    all false b h i = absurd cc

alone : (d : Change) → is_key d.0 ≡ true → are_changes (d ∷ []) ≡ true
alone d k = ap (λ b. (true && true) && (b && true)) k

behind : (front : List Change) (l d : Change) → are_changes (front ++ l ∷ []) ≡ true → is_key d.0 ≡ true
    → is_greater (order d.0 l.0) ≡ are_changes ((front ++ l ∷ []) ++ d ∷ [])
behind [] l d h k =
    next-one l d [] (is_greater (order d.0 l.0)) (alone d k) (both (is_key l.0) true (both true (is_key l.0 && true) h).1).0 refl
behind (x ∷ []) l d h k = cons-step x l [] d (is_greater (order d.0 l.0)) h (behind [] l d (tail-of x (l ∷ []) h) k)
behind (x ∷ y ∷ ys) l d h k =
    cons-step x y (ys ++ l ∷ []) d (is_greater (order d.0 l.0)) h (behind (y ∷ ys) l d (tail-of x (y ∷ (ys ++ l ∷ [])) h) k)

-- behind some changes, of which this is the last
pub behind-last : (cs : List KeyChange) (l c : KeyChange) → 1 ≤ length cs → l ≡ get_or cs (length cs - 1) l
    → are_changes (undone cs) ≡ true → is_key c.key ≡ true
    → is_greater (order c.key l.key) ≡ are_changes (undone (cs ++ c ∷ []))
behind-last cs l c some is h k =
    let view : KeyChange → Change = λ x. (x.key, x.before) in
    let front = take (length cs - 1) cs in
    let whole : undone cs ≡ undone front ++ view l ∷ [] = ap undone (front-last cs l some is) ∙ map-append view front (l ∷ []) in
    behind (undone front) (view l) (view c) (subst (λ t. are_changes t ≡ true) whole h) k
    ∙ ap (λ t. are_changes (t ++ view c ∷ [])) (sym whole)
    ∙ sym (ap are_changes (map-append view cs (c ∷ [])))

-- behind none
pub behind-none : (cs : List KeyChange) (c : KeyChange) → length cs ≡ 0 → is_key c.key ≡ true → true ≡ are_changes (undone (cs ++ c ∷ []))
behind-none [] c e k = sym (alone (c.key, c.before) k)
behind-none (x ∷ cs) c e k = absurd (omega (arith, e))

-- without a key there is no change
keyless : (cs : List Change) (d : Change) → is_key d.0 ≡ false → have_keys (cs ++ d ∷ []) ≡ false
keyless [] d e = ap (λ b. b && true) e
keyless (x ∷ cs) d e = none (is_key x.0) (have_keys (cs ++ d ∷ [])) (keyless cs d e)
  where
    none : (a b : Bool) → b ≡ false → (a && b) ≡ false
    none true b h = h
    none false b h = refl

pub behind-keyless : (cs : List KeyChange) (c : KeyChange) → is_key c.key ≡ false → false ≡ are_changes (undone (cs ++ c ∷ []))
behind-keyless cs c e =
    let view : KeyChange → Change = λ x. (x.key, x.before) in
    let all = undone (cs ++ c ∷ []) in
    sym (none (are_ascending all) (have_keys all) (ap have_keys (map-append view cs (c ∷ [])) ∙ keyless (undone cs) (view c) e))
  where
    none : (a b : Bool) → b ≡ false → (a && b) ≡ false
    none true b h = h
    none false b h = refl

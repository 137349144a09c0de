-- Counting in lists that are filtered, mapped and rid of doubles.
use Rattle.std.proofs.Common.{◌≡◌, ℕ, zero, suc, ◌+◌, ◌<◌, ◌≤◌, Bool, true, false, cond, not, ◌||◌, List, [], ◌∷◌, ◌++◌, map, refl, sym, ap, ◌∙◌, subst, arith}
use Rattle.std.specs.Prelude.{Contains}
use Rattle.std.specs.List.{filter}
use Rattle.std.specs.Str.{bytes_eq}
use Rattle.std.specs.declared.cmp.Ordering.{Ordering}
use Rattle.std.specs.declared.cmp.Ordering.TheVariants.{Less, Equal, Greater}
use Rattle.std.proofs.lemmas.Slice.Eq.{bytes_eq-Decides}
use Rattle.spec.specs.Blocks.{firsts}
use Rattle.spec.proofs.RootLaws.{in_head, in_tail}
use Rattle.edit_laws.specs.Order.{order}
use Rattle.edit_laws.specs.Changes.{one_if_equal, count, has_cid}
use Rattle.edit_laws.proofs.Orders.{order-same, order-equal}

-- ---- what is counted is contained

contains-case : (b x : List ℕ) (xs : List (List ℕ)) (o : Ordering) → order x b ≡ o
    → (0 < count b xs → Contains xs b) → 0 < one_if_equal o + count b xs → Contains (x ∷ xs) b
contains-case b x xs Less h ih k = in_tail x b xs (ih (omega arith))
contains-case b x xs Equal h ih k = subst (λ y. Contains (x ∷ xs) y) (order-equal x b h) (in_head x xs)
contains-case b x xs Greater h ih k = in_tail x b xs (ih (omega arith))

pub contains-counted : (b : List ℕ) (xs : List (List ℕ)) → 0 < count b xs → Contains xs b
contains-counted b [] k = absurd (omega arith)
contains-counted b (x ∷ xs) k = contains-case b x xs (order x b) refl (contains-counted b xs) k

count-head : (b x : List ℕ) (xs : List (List ℕ)) → x ≡ b → 0 < count b (x ∷ xs)
count-head b x xs e = let h : order x b ≡ Equal = ap (λ y. order y b) e ∙ order-same b in rw h (omega arith)

pub counted-contains : (b : List ℕ) (xs : List (List ℕ)) → Contains xs b → 0 < count b xs
counted-contains b [] c = let l : c.0 < 0 = c.1 in absurd (omega arith)
counted-contains b (x ∷ xs) (zero, l, e) = count-head b x xs e
counted-contains b (x ∷ xs) (suc k, l, e) = let i = counted-contains b xs (k, omega arith, e) in omega arith

-- ---- maps

pub count-append : (b : List ℕ) (xs ys : List (List ℕ)) → count b (xs ++ ys) ≡ count b xs + count b ys
count-append b [] ys = omega arith
count-append b (x ∷ xs) ys = let i = count-append b xs ys in omega arith

map-step : (f : List ℕ → List ℕ) (b x : List ℕ) (o : Ordering) → order x b ≡ o
    → one_if_equal o ≤ one_if_equal (order (f x) (f b))
map-step f b x Less h = omega arith
map-step f b x Equal h =
    let e : order (f x) (f b) ≡ Equal = ap (λ y. order (f y) (f b)) (order-equal x b h) ∙ order-same (f b) in
    rw e (omega arith)
map-step f b x Greater h = omega arith

pub count-map : (f : List ℕ → List ℕ) (b : List ℕ) (xs : List (List ℕ)) → count b xs ≤ count (f b) (map f xs)
count-map f b [] = omega arith
count-map f b (x ∷ xs) = let i = count-map f b xs in let j = map-step f b x (order x b) refl in omega arith

-- what stands in a mapped list comes from somewhere
pub record From (f : List ℕ → List ℕ) (c : List ℕ) (xs : List (List ℕ)) : Type 0 where
  pub source : List ℕ
  pub is : f source ≡ c
  pub stands : 0 < count source xs

from-case : (f : List ℕ → List ℕ) (c x : List ℕ) (xs : List (List ℕ)) (o : Ordering) → order (f x) c ≡ o
    → (0 < count c (map f xs) → From f c xs) → 0 < one_if_equal o + count c (map f xs) → From f c (x ∷ xs)
from-case f c x xs Less h ih k = let r = ih (omega arith) in let s : 0 < count r.source xs = r.stands in
    record { source = r.source; is = r.is; stands = omega arith }
from-case f c x xs Equal h ih k = record { source = x; is = order-equal (f x) c h; stands = count-head x x xs refl }
from-case f c x xs Greater h ih k = let r = ih (omega arith) in let s : 0 < count r.source xs = r.stands in
    record { source = r.source; is = r.is; stands = omega arith }

pub from-map : (f : List ℕ → List ℕ) (c : List ℕ) (xs : List (List ℕ)) → 0 < count c (map f xs) → From f c xs
from-map f c [] k = absurd (omega arith)
from-map f c (x ∷ xs) k = from-case f c x xs (order (f x) c) refl (from-map f c xs) k

-- ---- filters

filter-out-case : (p : List ℕ → Bool) (b x : List ℕ) (xs : List (List ℕ)) (q : Bool) (o : Ordering) → p x ≡ q
    → order x b ≡ o → p b ≡ false → count b (filter p xs) ≡ 0
    → count b (cond q (x ∷ filter p xs) (filter p xs)) ≡ 0
filter-out-case p b x xs true Less h k fails i = rw k (omega arith)
filter-out-case p b x xs true Equal h k fails i = let e : p b ≡ true = ap p (sym (order-equal x b k)) ∙ h in cc
filter-out-case p b x xs true Greater h k fails i = rw k (omega arith)
filter-out-case p b x xs false o h k fails i = i

pub filter-out : (p : List ℕ → Bool) (b : List ℕ) (xs : List (List ℕ)) → p b ≡ false → count b (filter p xs) ≡ 0
filter-out p b [] fails = refl
filter-out p b (x ∷ xs) fails = filter-out-case p b x xs (p x) (order x b) refl refl fails (filter-out p b xs fails)

filter-in-case : (p : List ℕ → Bool) (b x : List ℕ) (xs : List (List ℕ)) (q : Bool) (o : Ordering) → p x ≡ q
    → order x b ≡ o → p b ≡ true → count b (filter p xs) ≡ count b xs
    → count b (cond q (x ∷ filter p xs) (filter p xs)) ≡ one_if_equal o + count b xs
filter-in-case p b x xs true o h k passes i = rw k (omega arith)
filter-in-case p b x xs false Less h k passes i = omega arith
filter-in-case p b x xs false Equal h k passes i = let e : p b ≡ false = ap p (sym (order-equal x b k)) ∙ h in cc
filter-in-case p b x xs false Greater h k passes i = omega arith

pub filter-in : (p : List ℕ → Bool) (b : List ℕ) (xs : List (List ℕ)) → p b ≡ true → count b (filter p xs) ≡ count b xs
filter-in p b [] passes = refl
filter-in p b (x ∷ xs) passes = filter-in-case p b x xs (p x) (order x b) refl refl passes (filter-in p b xs passes)

filter-least-case : (f : List ℕ → List ℕ) (p : List ℕ → Bool) (c x : List ℕ) (xs : List (List ℕ)) (q : Bool)
    → count c (map f (filter p xs)) ≤ count c (map f xs)
    → count c (map f (cond q (x ∷ filter p xs) (filter p xs))) ≤ one_if_equal (order (f x) c) + count c (map f xs)
filter-least-case f p c x xs true i = omega arith
filter-least-case f p c x xs false i = omega arith

pub filter-least : (f : List ℕ → List ℕ) (p : List ℕ → Bool) (c : List ℕ) (xs : List (List ℕ))
    → count c (map f (filter p xs)) ≤ count c (map f xs)
filter-least f p c [] = omega arith
filter-least f p c (x ∷ xs) = filter-least-case f p c x xs (p x) (filter-least f p c xs)

-- a filter that takes all of one mark out
filter-marks-case : (f : List ℕ → List ℕ) (p : List ℕ → Bool) (c x : List ℕ) (xs : List (List ℕ)) (q : Bool)
    (o : Ordering) → p x ≡ q → order (f x) c ≡ o → ((y : List ℕ) → f y ≡ c → p y ≡ false)
    → count c (map f (filter p xs)) ≡ 0
    → count c (map f (cond q (x ∷ filter p xs) (filter p xs))) ≡ 0
filter-marks-case f p c x xs true Less h k fails i = rw k (omega arith)
filter-marks-case f p c x xs true Equal h k fails i = let e : p x ≡ false = fails x (order-equal (f x) c k) in cc
filter-marks-case f p c x xs true Greater h k fails i = rw k (omega arith)
filter-marks-case f p c x xs false o h k fails i = i

filter-marks : (f : List ℕ → List ℕ) (p : List ℕ → Bool) (c : List ℕ) (xs : List (List ℕ))
    → ((y : List ℕ) → f y ≡ c → p y ≡ false) → count c (map f (filter p xs)) ≡ 0
filter-marks f p c [] fails = refl
filter-marks f p c (x ∷ xs) fails =
    filter-marks-case f p c x xs (p x) (order (f x) c) refl refl fails (filter-marks f p c xs fails)

-- ---- the first of each mark

same-eq : (x y : List ℕ) → x ≡ y → bytes_eq x y ≡ true
same-eq x y e = (bytes_eq-Decides x y).1 e

once-case : (mark : List ℕ → List ℕ) (c x : List ℕ) (ys : List (List ℕ)) (o : Ordering) → order (mark x) c ≡ o
    → count c (map mark ys) ≤ 1
    → one_if_equal o + count c (map mark (filter (λ y. not (bytes_eq (mark x) (mark y))) ys)) ≤ 1
once-case mark c x ys Less h i = let j = filter-least mark (λ y. not (bytes_eq (mark x) (mark y))) c ys in omega arith
once-case mark c x ys Equal h i =
    let z = filter-marks mark (λ y. not (bytes_eq (mark x) (mark y))) c ys
    (λ y e. ap not (same-eq (mark x) (mark y) (order-equal (mark x) c h ∙ sym e))) in omega arith
once-case mark c x ys Greater h i = let j = filter-least mark (λ y. not (bytes_eq (mark x) (mark y))) c ys in
    omega arith

pub firsts-once : (mark : List ℕ → List ℕ) (c : List ℕ) (xs : List (List ℕ)) → count c (map mark (firsts mark xs)) ≤ 1
firsts-once mark c [] = omega arith
firsts-once mark c (x ∷ xs) = once-case mark c x (firsts mark xs) (order (mark x) c) refl (firsts-once mark c xs)

same-map : (xs : List (List ℕ)) → map (λ (x : List ℕ). x) xs ≡ xs
same-map [] = refl
same-map (x ∷ xs) = ap (λ ys. x ∷ ys) (same-map xs)

pub filter-fewer : (p : List ℕ → Bool) (b : List ℕ) (xs : List (List ℕ)) → count b (filter p xs) ≤ count b xs
filter-fewer p b xs =
    let i = filter-least (λ x. x) p b xs in
    let e : count b (map (λ x. x) (filter p xs)) ≡ count b (filter p xs) = ap (count b) (same-map (filter p xs)) in
    let f : count b (map (λ x. x) xs) ≡ count b xs = ap (count b) (same-map xs) in
    omega arith

pub firsts-from : (mark : List ℕ → List ℕ) (b : List ℕ) (xs : List (List ℕ)) → count b (firsts mark xs) ≤ count b xs
firsts-from mark b [] = omega arith
firsts-from mark b (x ∷ xs) =
    let i = firsts-from mark b xs in
    let j = filter-fewer (λ y. not (bytes_eq (mark x) (mark y))) b (firsts mark xs) in
    omega arith

-- a list whose marks do not clash with b keeps b
kept-test : (mark : List ℕ → List ℕ) (x b : List ℕ) (t : Bool) → bytes_eq (mark x) (mark b) ≡ t
    → (mark x ≡ mark b → x ≡ b) → (x ≡ b → ⊥) → not t ≡ true
kept-test mark x b true h one ne = absurd (ne (one ((bytes_eq-Decides (mark x) (mark b)).0 h)))
kept-test mark x b false h one ne = refl

not-equal : (x b : List ℕ) → order x b ≡ Less → x ≡ b → ⊥
not-equal x b h e = let s : order x b ≡ Equal = ap (λ y. order y b) e ∙ order-same b in cc

not-equal_after : (x b : List ℕ) → order x b ≡ Greater → x ≡ b → ⊥
not-equal_after x b h e = let s : order x b ≡ Equal = ap (λ y. order y b) e ∙ order-same b in cc

some-case : (mark : List ℕ → List ℕ) (b x : List ℕ) (xs : List (List ℕ)) (o : Ordering) → order x b ≡ o
    → (mark x ≡ mark b → x ≡ b) → (0 < count b xs → 0 < count b (firsts mark xs)) → 0 < one_if_equal o + count b xs
    → 0 < one_if_equal o + count b (filter (λ y. not (bytes_eq (mark x) (mark y))) (firsts mark xs))
some-case mark b x xs Less h one ih k =
    let i = ih (omega arith) in
    let e = filter-in (λ y. not (bytes_eq (mark x) (mark y))) b (firsts mark xs)
    (kept-test mark x b (bytes_eq (mark x) (mark b)) refl one (not-equal x b h)) in
    omega arith
some-case mark b x xs Equal h one ih k = omega arith
some-case mark b x xs Greater h one ih k =
    let i = ih (omega arith) in
    let e = filter-in (λ y. not (bytes_eq (mark x) (mark y))) b (firsts mark xs)
    (kept-test mark x b (bytes_eq (mark x) (mark b)) refl one (not-equal_after x b h)) in
    omega arith

pub firsts-some : (mark : List ℕ → List ℕ) (b : List ℕ) (xs : List (List ℕ))
    → ((a : List ℕ) → 0 < count a xs → mark a ≡ mark b → a ≡ b) → 0 < count b xs → 0 < count b (firsts mark xs)
firsts-some mark b [] one k = absurd (omega arith)
firsts-some mark b (x ∷ xs) one k =
    some-case mark b x xs (order x b) refl (one x (count-head x x xs refl))
    (firsts-some mark b xs (λ a l. one a (let m : 0 < count a xs = l in omega arith)))
    k

-- ---- the test for a CID

has-case : (c x : List ℕ) (cs : List (List ℕ)) (q : Bool) → bytes_eq c x ≡ q
    → (has_cid c cs ≡ true → 0 < count c cs) → (q || has_cid c cs) ≡ true → 0 < count c (x ∷ cs)
has-case c x cs true h ih k = count-head c x cs (sym ((bytes_eq-Decides c x).0 h))
has-case c x cs false h ih k = let i = ih k in omega arith

pub has-counted : (c : List ℕ) (cs : List (List ℕ)) → has_cid c cs ≡ true → 0 < count c cs
has-counted c [] k = absurd cc
has-counted c (x ∷ cs) k = has-case c x cs (bytes_eq c x) refl (has-counted c cs) k

has-not-case : (c x : List ℕ) (cs : List (List ℕ)) (q : Bool) (o : Ordering) → bytes_eq c x ≡ q → order x c ≡ o
    → (has_cid c cs ≡ false → count c cs ≡ 0) → (q || has_cid c cs) ≡ false → one_if_equal o + count c cs ≡ 0
has-not-case c x cs true o h g ih k = absurd cc
has-not-case c x cs false Less h g ih k = let i = ih k in omega arith
has-not-case c x cs false Equal h g ih k = let e : bytes_eq c x ≡ true = same-eq c x (sym (order-equal x c g)) in
    absurd cc
has-not-case c x cs false Greater h g ih k = let i = ih k in omega arith

pub has-not : (c : List ℕ) (cs : List (List ℕ)) → has_cid c cs ≡ false → count c cs ≡ 0
has-not c [] k = refl
has-not c (x ∷ cs) k = has-not-case c x cs (bytes_eq c x) (order x c) refl refl (has-not c cs) k

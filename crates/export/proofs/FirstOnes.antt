-- Blocks of which each CID is written once.
use Rattle.std.proofs.Common.{◌≡◌, ◌&&◌, ◌||◌, ℕ, Bool, true, false, not, cond, List, [], ◌∷◌, ◌++◌, refl, sym, ap, ◌∙◌, append-nil, append_assoc, arith}
use Rattle.std.specs.Prelude.{Contains, filter}
use Rattle.std.specs.List.{flat_map}
use Rattle.std.specs.Str.{bytes_eq}
use Rattle.spec.specs.Cid.{cid}
use Rattle.spec.specs.Blocks.{firsts}
use Rattle.spec.specs.Car.{section}
use Rattle.spec.proofs.RootLaws.{in_head, in_tail}
use Rattle.edit_laws.proofs.Lists.{contains-counted, counted-contains, firsts-from}
use Rattle.export.specs.Once.{has, HasMore, fresh, sections, section_once}

one-more : (b has : Bool) → cond b true has ≡ (b || has)
one-more true has = refl
one-more false has = refl

-- a set after an insertion
pub has-more : (old new : List (List ℕ)) (c : List ℕ) → ((d : List ℕ) → has new d ≡ cond (bytes_eq c d) true (has old d)) → HasMore old c new
has-more old new c h d = h d ∙ one-more (bytes_eq c d) (has old d)

-- ---- blocks that come first

-- an element in front, where it passes
abbrev kept : Bool → List ℕ → List (List ℕ) → List (List ℕ)
kept b x xs = cond b (x ∷ xs) xs

both-at : (p : List ℕ → Bool) (b : List ℕ) (xs ys : List (List ℕ)) (x y : Bool) → y ≡ (x && p b) → filter p xs ≡ ys
    → filter p (kept x b xs) ≡ kept y b ys
both-at p b xs ys false y e h = h ∙ sym (ap (λ t. kept t b ys) e)
both-at p b xs ys true y e h = ap (λ t. kept (p b) b t) h ∙ sym (ap (λ t. kept t b ys) e)

-- two tests in a row are one test
filter-both : (p q r : List ℕ → Bool) (bs : List (List ℕ)) → ((b : List ℕ) → Contains bs b → r b ≡ (q b && p b))
    → filter p (filter q bs) ≡ filter r bs
filter-both p q r [] h = refl
filter-both p q r (b ∷ bs) h =
    both-at p b (filter q bs) (filter r bs) (q b) (r b) (h b (in_head b bs)) (filter-both p q r bs (λ x i. h x (in_tail b x bs i)))

filter-none : (bs : List (List ℕ)) → filter (λ b. true) bs ≡ bs
filter-none [] = refl
filter-none (b ∷ bs) = ap (λ t. b ∷ t) (filter-none bs)

pub fresh-all : (digest : List ℕ → List ℕ) (bs : List (List ℕ)) → fresh digest [] bs ≡ firsts (cid digest) bs
fresh-all digest bs = filter-none (firsts (cid digest) bs)

not-or : (a b : Bool) → not (a || b) ≡ (not a && not b)
not-or true b = refl
not-or false b = refl

-- of the CIDs of these blocks there is this one more
abbrev pub HasMoreAmong : (List ℕ → List ℕ) → List (List ℕ) → List (List ℕ) → List ℕ → List (List ℕ) → Type 0
HasMoreAmong digest bs old c new =
    (x : List ℕ) → Contains bs x → has new (cid digest x) ≡ bytes_eq c (cid digest x) || has old (cid digest x)

first-in : (mark : List ℕ → List ℕ) (bs : List (List ℕ)) (x : List ℕ) → Contains (firsts mark bs) x → Contains bs x
first-in mark bs x h =
    let i = counted-contains x (firsts mark bs) h in
    let j = firsts-from mark x bs in
    contains-counted x bs (omega arith)

-- one block more: it is written unless its CID came before
fresh-more : (digest : List ℕ → List ℕ) (old new : List (List ℕ)) (b : List ℕ) (bs : List (List ℕ)) → HasMoreAmong digest bs old (cid digest b) new
    → fresh digest old (b ∷ bs) ≡ kept (not (has old (cid digest b))) b (fresh digest new bs)
fresh-more digest old new b bs more =
    ap (kept (not (has old (cid digest b))) b)
    (filter-both (λ x. not (has old (cid digest x))) (λ x. not (bytes_eq (cid digest b) (cid digest x))) (λ x. not (has new (cid digest x)))
    (firsts (cid digest) bs)
    (λ x i. ap not (more x (first-in (cid digest) bs x i)) ∙ not-or (bytes_eq (cid digest b) (cid digest x)) (has old (cid digest x))))

flat-kept : (f : List ℕ → List ℕ) (t : Bool) (b : List ℕ) (bs : List (List ℕ))
    → flat_map f (kept (not t) b bs) ≡ cond t [] (f b) ++ flat_map f bs
flat-kept f true b bs = refl
flat-kept f false b bs = refl

pub sections-more : (digest : List ℕ → List ℕ) (old new : List (List ℕ)) (b : List ℕ) (bs : List (List ℕ)) → HasMoreAmong digest bs old (cid digest b) new
    → sections digest old (b ∷ bs) ≡ section_once digest old b ++ sections digest new bs
sections-more digest old new b bs more =
    ap (flat_map (section digest)) (fresh-more digest old new b bs more)
    ∙ flat-kept (section digest) (has old (cid digest b)) b (fresh digest new bs)

-- whatever is left after it
unfoldable pub later : (List ℕ → List ℕ) → List (List ℕ) → List ℕ → List (List ℕ) → List ℕ
later digest old b bs =
    flat_map (section digest) (filter (λ x. not (has old (cid digest x))) (filter (λ x. not (bytes_eq (cid digest b) (cid digest x))) (firsts (cid digest) bs)))

pub sections-later : (digest : List ℕ → List ℕ) (old : List (List ℕ)) (b : List ℕ) (bs : List (List ℕ))
    → sections digest old (b ∷ bs) ≡ section_once digest old b ++ later digest old b bs
unfolding later
sections-later digest old b bs =
    flat-kept (section digest) (has old (cid digest b)) b
    (filter (λ x. not (has old (cid digest x))) (filter (λ x. not (bytes_eq (cid digest b) (cid digest x))) (firsts (cid digest) bs)))

-- a block by itself
pub alone-section : (digest : List ℕ → List ℕ) (old : List (List ℕ)) (b : List ℕ) → section_once digest old b ≡ sections digest old (b ∷ [])
alone-section digest old b =
    sym (append-nil (section_once digest old b)) ∙ sym (flat-kept (section digest) (has old (cid digest b)) b [])

old-one : (t new : Bool) (xs : List ℕ) → new ≡ not t → new ≡ false → cond t [] xs ≡ []
old-one true new xs e h = refl
old-one false new xs e h = absurd cc

new-one : (t new : Bool) (xs : List ℕ) → new ≡ not t → new ≡ true → cond t [] xs ≡ xs
new-one true new xs e h = absurd cc
new-one false new xs e h = refl

pub once-old : (digest : List ℕ → List ℕ) (cids : List (List ℕ)) (b c : List ℕ) (new : Bool) → c ≡ cid digest b → new ≡ not (has cids c)
    → new ≡ false → section_once digest cids b ≡ []
once-old digest cids b c new is e h = old-one (has cids (cid digest b)) new (section digest b) (e ∙ ap (λ d. not (has cids d)) is) h

pub once-new : (digest : List ℕ → List ℕ) (cids : List (List ℕ)) (b c : List ℕ) (new : Bool) → c ≡ cid digest b → new ≡ not (has cids c)
    → new ≡ true → section_once digest cids b ≡ section digest b
once-new digest cids b c new is e h = new-one (has cids (cid digest b)) new (section digest b) (e ∙ ap (λ d. not (has cids d)) is) h

-- ---- the first of two lists

abbrev Front : {X : Type 0} → List X → List X → Type 0
Front {X = X} part whole = (rest : List X) × (whole ≡ part ++ rest)

filter-append : (p : List ℕ → Bool) (xs ys : List (List ℕ)) → filter p (xs ++ ys) ≡ filter p xs ++ filter p ys
filter-append p [] ys = refl
filter-append p (x ∷ xs) ys = kept-append (p x) x (filter p (xs ++ ys)) (filter p xs) (filter p ys) (filter-append p xs ys)
  where
    kept-append : (t : Bool) (x : List ℕ) (zs bs cs : List (List ℕ)) → zs ≡ bs ++ cs → kept t x zs ≡ kept t x bs ++ cs
    kept-append true x zs bs cs e = ap (λ t. x ∷ t) e
    kept-append false x zs bs cs e = e

filter-front : (p : List ℕ → Bool) (xs ys : List (List ℕ)) → Front xs ys → Front (filter p xs) (filter p ys)
filter-front p xs ys f = (filter p f.0, ap (filter p) f.1 ∙ filter-append p xs f.0)

firsts-front : (mark : List ℕ → List ℕ) (xs ys : List (List ℕ)) → Front (firsts mark xs) (firsts mark (xs ++ ys))
firsts-front mark [] ys = (firsts mark ys, refl)
firsts-front mark (x ∷ xs) ys =
    let f = filter-front (λ c. not (bytes_eq (mark x) (mark c))) (firsts mark xs) (firsts mark (xs ++ ys)) (firsts-front mark xs ys) in
    (f.0, ap (λ t. x ∷ t) f.1)

flat-append : (f : List ℕ → List ℕ) (xs ys : List (List ℕ)) → flat_map f (xs ++ ys) ≡ flat_map f xs ++ flat_map f ys
flat-append f [] ys = refl
flat-append f (x ∷ xs) ys = ap (λ t. f x ++ t) (flat-append f xs ys) ∙ sym (append_assoc (f x) (flat_map f xs) (flat_map f ys))

pub sections-front : (digest : List ℕ → List ℕ) (old xs ys : List (List ℕ))
    → (rest : List ℕ) × (sections digest old (xs ++ ys) ≡ sections digest old xs ++ rest)
sections-front digest old xs ys =
    let f = filter-front (λ b. not (has old (cid digest b))) (firsts (cid digest) xs) (firsts (cid digest) (xs ++ ys)) (firsts-front (cid digest) xs ys) in
    (flat_map (section digest) f.0, ap (flat_map (section digest)) f.1 ∙ flat-append (section digest) (fresh digest old xs) f.0)

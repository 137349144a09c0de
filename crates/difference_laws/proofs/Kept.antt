-- What is known of a line's subtrees stays known as it is opened, and as subtrees are left out.
use Rattle.std.proofs.Common.{◌≡◌, ◌⊎◌, inl, inr, ℕ, zero, suc, ◌<◌, ◌≤◌, Bool, true, false, ◌||◌, List, [], ◌∷◌, ◌++◌, map, refl, sym, ap, ◌∙◌, arith, Option}
use Rattle.std.specs.declared.option.Option.TheVariants.{Some}
use Rattle.std.specs.List.{AllByRecursion}
use Rattle.spec.specs.Laws.Tree.{HasLayer, IsJustBelow, HasPairs}
use Rattle.spec.specs.Tree.{Pair, Node, Part, Last, More, Nothing, Sub, EachNode, EachUnder, pairs_in, pairs_under}
use Rattle.spec.specs.NodeFormat.{Shape, shape, part_link, shape_cid}
use Rattle.edit_laws.specs.Changes.{count, one_if_equal, marked, has_cid}
use Rattle.edit_laws.specs.Order.{order}
use Rattle.edit_laws.specs.Pairs.{Each, IsAfter, Ascending}
use Rattle.edit_laws.specs.Trace.{weight_under, nodes_of}
use Rattle.edit_laws.proofs.EachPair.{each-parts, each-both}
use Rattle.edit_laws.proofs.Lists.{has-counted, has-not}
use Rattle.edit_laws.proofs.Orders.{order-same}
use Rattle.difference_laws.specs.Lines.{repeats}
use Rattle.difference_laws.proofs.Opening.{tops, own, spliced_node, spread, cid_of, kept, bare_part, bare, IsShown}

-- ---- something of each node

module _ (P : Node → Type 0) where
  under-spliced : (m : Node) (e : Pair) (r : Node) → EachUnder P m → EachUnder P r → EachUnder P (spliced_node m e r)
  under-spliced (Last p) e r h k = (h, k)
  under-spliced (More p f s) e r h k = (h.0, under-spliced s e r h.1 k)

  pub under-spread : (m : Node) → EachUnder P m → EachUnder P (spread m)
  under-spread (Last Nothing) h = tt
  under-spread (Last (Sub k)) h = h.1
  under-spread (More Nothing e r) h = (tt, under-spread r h.1)
  under-spread (More (Sub k) e r) h = under-spliced k e (spread r) h.0.1 (under-spread r h.1)

  pub under-tops : (m : Node) → EachUnder P m → AllByRecursion (λ k. EachNode P (Sub k)) (tops m)
  under-tops (Last Nothing) h = tt
  under-tops (Last (Sub k)) h = (h, tt)
  under-tops (More Nothing e r) h = under-tops r h.1
  under-tops (More (Sub k) e r) h = (h.0, under-tops r h.1)

  module _ (digest : List ℕ → List ℕ) where
    each-kept : (t : Bool) (k : Node) → EachNode P (Sub k) → EachNode P (kept digest t k)
    each-kept true k h = tt
    each-kept false k h = h

    each-bare : (cs : List (List ℕ)) (p : Part) → EachNode P p → EachNode P (bare_part digest cs p)
    each-bare cs Nothing h = tt
    each-bare cs (Sub k) h = each-kept (has_cid (cid_of digest k) cs) k h

    pub under-bare : (cs : List (List ℕ)) (m : Node) → EachUnder P m → EachUnder P (bare digest cs m)
    under-bare cs (Last p) h = each-bare cs p h
    under-bare cs (More p e r) h = (each-bare cs p h.0, under-bare cs r h.1)

-- ---- layers

module _ (layer : List ℕ → ℕ) where
  -- each subtree is a node of the layer just below n
  abbrev pub PartsBelow : ℕ → Node → Type 0
  PartsBelow n (Last p) = IsJustBelow layer n p
  PartsBelow n (More p e r) = IsJustBelow layer n p × PartsBelow n r

  pub parts-below : (n : ℕ) (m : Node) → HasLayer layer n m → PartsBelow n m
  parts-below n (Last p) h = h
  parts-below n (More p e r) h = (h.0, parts-below n r h.2)

  below-spliced : (n : ℕ) (m : Node) (e : Pair) (r : Node) → PartsBelow n m → PartsBelow n r
      → PartsBelow n (spliced_node m e r)
  below-spliced n (Last p) e r h k = (h, k)
  below-spliced n (More p f s) e r h k = (h.0, below-spliced n s e r h.1 k)

  nothing-below : (n : ℕ) → IsJustBelow layer n Nothing
  nothing-below zero = tt
  nothing-below (suc n) = tt

  pub below-spread : (n : ℕ) (m : Node) → PartsBelow (suc n) m → PartsBelow n (spread m)
  below-spread n (Last Nothing) h = nothing-below n
  below-spread n (Last (Sub k)) h = parts-below n k h
  below-spread n (More Nothing e r) h = (nothing-below n, below-spread n r h.1)
  below-spread n (More (Sub k) e r) h = below-spliced n k e (spread r) (parts-below n k h.0) (below-spread n r h.1)

  pub none-below : (m : Node) → PartsBelow zero m → tops m ≡ []
  none-below (Last Nothing) h = refl
  none-below (Last (Sub k)) h = absurd h
  none-below (More Nothing e r) h = none-below r h.1
  none-below (More (Sub k) e r) h = absurd h.0

  pub no-weight : (w : Node → ℕ) (m : Node) → PartsBelow zero m → weight_under w m ≡ 0
  no-weight w (Last Nothing) h = refl
  no-weight w (Last (Sub k)) h = absurd h
  no-weight w (More Nothing e r) h = let i = no-weight w r h.1 in omega arith
  no-weight w (More (Sub k) e r) h = absurd h.0

  module _ (digest : List ℕ → List ℕ) where
    below-kept : (n : ℕ) (t : Bool) (k : Node) → IsJustBelow layer n (Sub k) → IsJustBelow layer n (kept digest t k)
    below-kept n true k h = nothing-below n
    below-kept n false k h = h

    below-part : (n : ℕ) (cs : List (List ℕ)) (p : Part) → IsJustBelow layer n p
        → IsJustBelow layer n (bare_part digest cs p)
    below-part n cs Nothing h = h
    below-part n cs (Sub k) h = below-kept n (has_cid (cid_of digest k) cs) k h

    pub below-bare : (n : ℕ) (cs : List (List ℕ)) (m : Node) → PartsBelow n m → PartsBelow n (bare digest cs m)
    below-bare n cs (Last p) h = below-part n cs p h
    below-bare n cs (More p e r) h = (below-part n cs p h.0, below-bare n cs r h.1)

-- ---- pairs in order

pairs-spliced : (m : Node) (e : Pair) (r : Node)
    → pairs_under (spliced_node m e r) ≡ pairs_under m ++ (e ∷ pairs_under r)
pairs-spliced (Last p) e r = refl
pairs-spliced (More p f s) e r =
    ap (λ t. pairs_in p ++ (f ∷ t)) (pairs-spliced s e r) ∙ sym (regroup (pairs_in p) f (pairs_under s) (e ∷ pairs_under r))
  where
    regroup : (xs : List Pair) (f : Pair) (ys zs : List Pair) → (xs ++ (f ∷ ys)) ++ zs ≡ xs ++ (f ∷ (ys ++ zs))
    regroup [] f ys zs = refl
    regroup (x ∷ xs) f ys zs = ap (λ t. x ∷ t) (regroup xs f ys zs)

pub pairs-spread : (m : Node) → pairs_under (spread m) ≡ pairs_under m
pairs-spread (Last Nothing) = refl
pairs-spread (Last (Sub k)) = refl
pairs-spread (More Nothing e r) = ap (λ t. e ∷ t) (pairs-spread r)
pairs-spread (More (Sub k) e r) =
    pairs-spliced k e (spread r) ∙ ap (λ t. pairs_under k ++ (e ∷ t)) (pairs-spread r)

ascending-right : (xs ys : List Pair) → Ascending (xs ++ ys) → Ascending ys
ascending-right [] ys h = h
ascending-right (x ∷ xs) ys h = ascending-right xs ys h.1

module _ (digest : List ℕ → List ℕ) where
  -- what is after a key stays after it
  each-part : (P : Pair → Type 0) (cs : List (List ℕ)) (t : Bool) (k : Node) → Each P (pairs_under k)
      → Each P (pairs_in (kept digest t k))
  each-part P cs true k h = tt
  each-part P cs false k h = h

  each-bare-part : (P : Pair → Type 0) (cs : List (List ℕ)) (p : Part) → Each P (pairs_in p)
      → Each P (pairs_in (bare_part digest cs p))
  each-bare-part P cs Nothing h = h
  each-bare-part P cs (Sub k) h = each-part P cs (has_cid (cid_of digest k) cs) k h

  each-pair-bare : (P : Pair → Type 0) (cs : List (List ℕ)) (m : Node) → Each P (pairs_under m)
      → Each P (pairs_under (bare digest cs m))
  each-pair-bare P cs (Last p) h = each-bare-part P cs p h
  each-pair-bare P cs (More p e r) h =
      let i = each-parts P (pairs_in p) (e ∷ pairs_under r) h in
      each-both P (pairs_in (bare_part digest cs p)) (e ∷ pairs_under (bare digest cs r))
      (each-bare-part P cs p i.0) (i.1.0, each-pair-bare P cs r i.1.1)

  -- in front of what comes after, a list or nothing
  front : (xs ys zs : List Pair) → ((P : Pair → Type 0) → Each P ys → Each P zs) → Ascending zs → Ascending (xs ++ ys)
      → Ascending (xs ++ zs)
  front [] ys zs f a h = a
  front (x ∷ xs) ys zs f a h =
      let i = each-parts (IsAfter x.0) xs ys h.0 in
      (each-both (IsAfter x.0) xs zs i.0 (f (IsAfter x.0) i.1), front xs ys zs f a h.1)

  ascends-kept : (t : Bool) (k : Node) (zs : List Pair) → Ascending zs → Ascending (pairs_under k ++ zs)
      → Ascending (pairs_in (kept digest t k) ++ zs)
  ascends-kept true k zs a h = a
  ascends-kept false k zs a h = h

  ascends-part : (cs : List (List ℕ)) (p : Part) (zs : List Pair) → Ascending zs → Ascending (pairs_in p ++ zs)
      → Ascending (pairs_in (bare_part digest cs p) ++ zs)
  ascends-part cs Nothing zs a h = h
  ascends-part cs (Sub k) zs a h = ascends-kept (has_cid (cid_of digest k) cs) k zs a h

  alone : (t : Bool) (k : Node) → Ascending (pairs_under k) → Ascending (pairs_in (kept digest t k))
  alone true k h = tt
  alone false k h = h

  alone-part : (cs : List (List ℕ)) (p : Part) → Ascending (pairs_in p) → Ascending (pairs_in (bare_part digest cs p))
  alone-part cs Nothing h = h
  alone-part cs (Sub k) h = alone (has_cid (cid_of digest k) cs) k h

  pub ascends-bare : (cs : List (List ℕ)) (m : Node) → Ascending (pairs_under m) → Ascending (pairs_under (bare digest cs m))
  ascends-bare cs (Last p) h = alone-part cs p h
  ascends-bare cs (More p e r) h =
      let right : Ascending (e ∷ pairs_under r) = ascending-right (pairs_in p) (e ∷ pairs_under r) h in
      let rest : Ascending (e ∷ pairs_under (bare digest cs r)) =
      (each-pair-bare (IsAfter e.0) cs r right.0, ascends-bare cs r right.1) in
      ascends-part cs p (e ∷ pairs_under (bare digest cs r)) rest
      (front (pairs_in p) (e ∷ pairs_under r) (e ∷ pairs_under (bare digest cs r))
      (λ P i. (i.0, each-pair-bare P cs r i.1)) rest h)

-- ---- each subtree once

module _ (digest : List ℕ → List ℕ) where
  abbrev pub hit : List ℕ → Node → ℕ
  hit c m = marked (λ k. shape_cid digest (shape digest k)) c m

  pub tops-counted : (c : List ℕ) (m : Node) → count c (map (cid_of digest) (tops m)) ≤ weight_under (hit c) m
  tops-counted c (Last Nothing) = omega arith
  tops-counted c (Last (Sub k)) = omega arith
  tops-counted c (More Nothing e r) = let i = tops-counted c r in omega arith
  tops-counted c (More (Sub k) e r) = let i = tops-counted c r in omega arith

  once-more : (c : List ℕ) (cs : List (List ℕ)) → count c (c ∷ cs) ≤ 1 → (t : Bool) → has_cid c cs ≡ t → t ≡ false
  once-more c cs h true e =
      let a : 0 < count c cs = has-counted c cs e in
      let s : one_if_equal (order c c) ≡ 1 = ap one_if_equal (order-same c) in
      absurd (omega arith)
  once-more c cs h false e = refl

  either : (a b : Bool) → a ≡ false → b ≡ false → (a || b) ≡ false
  either a b p q = rw (p, q) refl

  pub none-repeats : (cs : List (List ℕ)) → ((c : List ℕ) → count c cs ≤ 1) → repeats cs ≡ false
  none-repeats [] h = refl
  none-repeats (c ∷ cs) h =
      either (has_cid c cs) (repeats cs) (once-more c cs (h c) (has_cid c cs) refl)
      (none-repeats cs (λ d. let i = h d in omega arith))

-- ---- equal CIDs, equal nodes

module _ (digest : List ℕ → List ℕ) (shows : List ℕ → Option Shape) where
  free : (m k : Node) → IsShown digest shows m → IsShown digest shows k → cid_of digest m ≡ cid_of digest k
      → shape digest m ≡ shape digest k
  free m k h i e = some-is (shape digest m) (shape digest k) (sym h ∙ ap shows e ∙ i)
    where
      some-is : {A : Type 0} (x y : A) → ◌≡◌ {A = Option A} (Some x) (Some y) → x ≡ y
      some-is x y q = cc

  mutual
    cross-part : (p q : Part) → EachNode (IsShown digest shows) p → EachNode (IsShown digest shows) q
        → part_link digest p ≡ part_link digest q → p ≡ q
    cross-part Nothing Nothing h k e = refl
    cross-part Nothing (Sub m) h k e = cc
    cross-part (Sub m) Nothing h k e = cc
    cross-part (Sub m) (Sub n) h k e = ap Sub (cross-node m n h.1 k.1 (free m n h.0 k.0 (cc)))

    cross-node : (m n : Node) → EachUnder (IsShown digest shows) m → EachUnder (IsShown digest shows) n
        → shape digest m ≡ shape digest n → m ≡ n
    cross-node (Last p) (Last q) h k e = ap Last (cross-part p q h k (cc))
    cross-node (Last p) (More q f s) h k e = cc
    cross-node (More p e r) (Last q) h k c = cc
    cross-node (More p e r) (More q f s) h k c =
        let i = cross-part p q h.0 k.0 (cc) in
        let j = cross-node r s h.1 k.1 (cc) in
        let f' : e ≡ f = cc in
        cc

  pub same-node : (m k : Node) → EachNode (IsShown digest shows) (Sub m) → EachNode (IsShown digest shows) (Sub k)
      → cid_of digest m ≡ cid_of digest k → m ≡ k
  same-node m k h i e = cross-node m k h.1 i.1 (free m k h.0 i.0 e)

-- ---- nodes apart

-- no node of the one list has the CID of one of the other
abbrev pub AreApart : (List ℕ → List ℕ) → List Node → List Node → Type 0
AreApart digest xs ys = AllByRecursion (λ x. AllByRecursion (λ y. cid_of digest x ≡ cid_of digest y → ⊥) ys) xs

all-append : (P : Node → Type 0) (xs ys : List Node) → AllByRecursion P xs → AllByRecursion P ys → AllByRecursion P (xs ++ ys)
all-append P [] ys h k = k
all-append P (x ∷ xs) ys h k = (h.0, all-append P xs ys h.1 k)

pub all-both : (P : Node → Type 0) (xs ys : List Node) → AllByRecursion P xs → AllByRecursion P ys
    → AllByRecursion P (xs ++ ys)
all-both P xs ys h k = all-append P xs ys h k

pub all-of : (P Q : Node → Type 0) (xs : List Node) → ((x : Node) → P x → Q x) → AllByRecursion P xs → AllByRecursion Q xs
all-of P Q [] f h = tt
all-of P Q (x ∷ xs) f h = (f x h.0, all-of P Q xs f h.1)

pub apart-by : (digest : List ℕ → List ℕ) (P Q : Node → Type 0)
    → ((x y : Node) → P x → Q y → cid_of digest x ≡ cid_of digest y → ⊥)
    → (xs ys : List Node) → AllByRecursion P xs → AllByRecursion Q ys → AreApart digest xs ys
apart-by digest P Q f [] ys h k = tt
apart-by digest P Q f (x ∷ xs) ys h k =
    (all-of Q (λ y. cid_of digest x ≡ cid_of digest y → ⊥) ys (λ y q. f x y h.0 q) k, apart-by digest P Q f xs ys h.1 k)

apart-right : (digest : List ℕ → List ℕ) (xs ys zs : List Node) → AreApart digest xs ys → AreApart digest xs zs
    → AreApart digest xs (ys ++ zs)
apart-right digest [] ys zs h k = tt
apart-right digest (x ∷ xs) ys zs h k =
    (all-append (λ y. cid_of digest x ≡ cid_of digest y → ⊥) ys zs h.0 k.0, apart-right digest xs ys zs h.1 k.1)

-- two lists that grow
pub apart-four : (digest : List ℕ → List ℕ) (xs us ys vs : List Node) → AreApart digest xs ys → AreApart digest xs vs
    → AreApart digest us ys → AreApart digest us vs → AreApart digest (xs ++ us) (ys ++ vs)
apart-four digest xs us ys vs a b c d =
    all-append (λ x. AllByRecursion (λ y. cid_of digest x ≡ cid_of digest y → ⊥) (ys ++ vs)) xs us
    (apart-right digest xs ys vs a b) (apart-right digest us ys vs c d)

module _ (digest : List ℕ → List ℕ) where
  abbrev IsOut : List (List ℕ) → Node → Type 0
  IsOut cs k = has_cid (cid_of digest k) cs ≡ false

  out-kept : (cs : List (List ℕ)) (t : Bool) (k : Node) → has_cid (cid_of digest k) cs ≡ t
      → AllByRecursion (IsOut cs) (nodes_of (kept digest t k))
  out-kept cs true k e = tt
  out-kept cs false k e = (e, tt)

  -- what is left has none of the CIDs
  pub left-out : (cs : List (List ℕ)) (m : Node) → AllByRecursion (IsOut cs) (tops (bare digest cs m))
  left-out cs (Last Nothing) = tt
  left-out cs (Last (Sub k)) = out-kept cs (has_cid (cid_of digest k) cs) k refl
  left-out cs (More Nothing e r) = left-out cs r
  left-out cs (More (Sub k) e r) =
      all-append (IsOut cs) (nodes_of (kept digest (has_cid (cid_of digest k) cs) k)) (tops (bare digest cs r))
      (out-kept cs (has_cid (cid_of digest k) cs) k refl) (left-out cs r)

  abbrev IsIn : List Node → Node → Type 0
  IsIn ks k = 1 ≤ count (cid_of digest k) (map (cid_of digest) ks)

  in-kept : (ks : List Node) (t : Bool) (k : Node) → IsIn ks k → AllByRecursion (IsIn ks) (nodes_of (kept digest t k))
  in-kept ks true k h = tt
  in-kept ks false k h = (h, tt)

  first-in : (k : Node) (ks : List Node) → IsIn (k ∷ ks) k
  first-in k ks = let s : one_if_equal (order (cid_of digest k) (cid_of digest k)) ≡ 1 =
      ap one_if_equal (order-same (cid_of digest k)) in omega arith

  more-in : (k x : Node) (ks : List Node) → IsIn ks x → IsIn (k ∷ ks) x
  more-in k x ks h = omega arith

  -- what is left stood there
  pub left-in : (cs : List (List ℕ)) (m : Node) → AllByRecursion (IsIn (tops m)) (tops (bare digest cs m))
  left-in cs (Last Nothing) = tt
  left-in cs (Last (Sub k)) = in-kept (k ∷ []) (has_cid (cid_of digest k) cs) k (first-in k [])
  left-in cs (More Nothing e r) = left-in cs r
  left-in cs (More (Sub k) e r) =
      all-append (IsIn (k ∷ tops r)) (nodes_of (kept digest (has_cid (cid_of digest k) cs) k)) (tops (bare digest cs r))
      (in-kept (k ∷ tops r) (has_cid (cid_of digest k) cs) k (first-in k (tops r)))
      (all-of (IsIn (tops r)) (IsIn (k ∷ tops r)) (tops (bare digest cs r)) (λ x h. more-in k x (tops r) h)
      (left-in cs r))

  -- so what is left of two lines is apart
  pub left-apart : (a b : Node) (cs : List (List ℕ))
      → AreApart digest (tops (bare digest (map (cid_of digest) (tops b)) a)) (tops (bare digest cs b))
  left-apart a b cs =
      apart-by digest (IsOut (map (cid_of digest) (tops b))) (IsIn (tops b))
      (λ x y h k e. (let i = has-not (cid_of digest x) (map (cid_of digest) (tops b)) h in
      let j = ap (λ c. count c (map (cid_of digest) (tops b))) e in absurd (omega arith)))
      (tops (bare digest (map (cid_of digest) (tops b)) a)) (tops (bare digest cs b))
      (left-out (map (cid_of digest) (tops b)) a) (left-in cs b)

-- ---- a node with pairs has one layer

module _ (layer : List ℕ → ℕ) where
  pub one-layer : (i j : ℕ) (m : Node) → HasLayer layer i m → HasLayer layer j m → HasPairs m → i ≡ j
  one-layer i j (Last Nothing) h k p = absurd (p refl)
  one-layer zero j (Last (Sub m)) h k p = absurd h
  one-layer (suc i) zero (Last (Sub m)) h k p = absurd k
  one-layer (suc i) (suc j) (Last (Sub m)) h k p = ap suc (one-layer i j m h k p)
  one-layer i j (More q e r) h k p = sym h.1 ∙ k.1

  pub tops-layer : (n : ℕ) (m : Node) → PartsBelow layer (suc n) m → AllByRecursion (HasLayer layer n) (tops m)
  tops-layer n (Last Nothing) h = tt
  tops-layer n (Last (Sub k)) h = (h, tt)
  tops-layer n (More Nothing e r) h = tops-layer n r h.1
  tops-layer n (More (Sub k) e r) h = (h.0, tops-layer n r h.1)

-- ---- a node without pairs is the top of the empty tree

abbrev pub IsFull : ℕ → Part → Type 0
IsFull n Nothing = Unit {0}
IsFull n (Sub m) = (HasPairs m ⊎ (n ≡ 1)) × EachUnder HasPairs m

-- each subtree has pairs, or is of layer 0
abbrev pub PartsFull : ℕ → Node → Type 0
PartsFull n (Last p) = IsFull n p
PartsFull n (More p e r) = IsFull n p × PartsFull n r

full-part : (n : ℕ) (p : Part) → EachNode HasPairs p → IsFull n p
full-part n Nothing h = tt
full-part n (Sub m) h = (inl h.0, h.1)

full-parts : (n : ℕ) (m : Node) → EachUnder HasPairs m → PartsFull n m
full-parts n (Last p) h = full-part n p h
full-parts n (More p e r) h = (full-part n p h.0, full-parts n r h.1)

full-spliced : (n : ℕ) (m : Node) (e : Pair) (r : Node) → PartsFull n m → PartsFull n r → PartsFull n (spliced_node m e r)
full-spliced n (Last p) e r h k = (h, k)
full-spliced n (More p f s) e r h k = (h.0, full-spliced n s e r h.1 k)

pub full-spread : (n k : ℕ) (m : Node) → PartsFull n m → PartsFull k (spread m)
full-spread n k (Last Nothing) h = tt
full-spread n k (Last (Sub m)) h = full-parts k m h.1
full-spread n k (More Nothing e r) h = (tt, full-spread n k r h.1)
full-spread n k (More (Sub m) e r) h = full-spliced k m e (spread r) (full-parts k m h.0.1) (full-spread n k r h.1)

full-kept : (digest : List ℕ → List ℕ) (n : ℕ) (t : Bool) (m : Node) → IsFull n (Sub m) → IsFull n (kept digest t m)
full-kept digest n true m h = tt
full-kept digest n false m h = h

full-bare_part : (digest : List ℕ → List ℕ) (n : ℕ) (cs : List (List ℕ)) (p : Part) → IsFull n p
    → IsFull n (bare_part digest cs p)
full-bare_part digest n cs Nothing h = tt
full-bare_part digest n cs (Sub m) h = full-kept digest n (has_cid (cid_of digest m) cs) m h

pub full-bare : (digest : List ℕ → List ℕ) (n : ℕ) (cs : List (List ℕ)) (m : Node) → PartsFull n m
    → PartsFull n (bare digest cs m)
full-bare digest n cs (Last p) h = full-bare_part digest n cs p h
full-bare digest n cs (More p e r) h = (full-bare_part digest n cs p h.0, full-bare digest n cs r h.1)

lowest : (n : ℕ) (m : Node) → HasPairs m ⊎ (suc n ≡ 1) → HasPairs m ⊎ (n ≡ 0)
lowest n m (inl h) = inl h
lowest n m (inr e) = inr (omega arith)

pub full-tops : (n : ℕ) (m : Node) → PartsFull (suc n) m → AllByRecursion (λ k. HasPairs k ⊎ (n ≡ 0)) (tops m)
full-tops n (Last Nothing) h = tt
full-tops n (Last (Sub m)) h = (lowest n m h.0, tt)
full-tops n (More Nothing e r) h = full-tops n r h.1
full-tops n (More (Sub m) e r) h = (lowest n m h.0.0, full-tops n r h.1)

-- ---- a line without subtrees

pub own-all : (layer : List ℕ → ℕ) (m : Node) → PartsBelow layer zero m → pairs_under m ≡ own m
own-all layer (Last Nothing) h = refl
own-all layer (Last (Sub k)) h = absurd h
own-all layer (More Nothing e r) h = ap (λ t. e ∷ t) (own-all layer r h.1)
own-all layer (More (Sub k) e r) h = absurd h.0

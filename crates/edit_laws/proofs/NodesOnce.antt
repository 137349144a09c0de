-- Where no two shapes have one CID: equal CIDs mean equal subtrees, and no node stands twice.
use Rattle.std.proofs.Common.{◌≡◌, ◌⊎◌, inl, inr, ℕ, suc, ◌+◌, ◌≤◌, List, [], ◌∷◌, ◌++◌, refl, ap, subst, arith}
use Rattle.std.specs.declared.cmp.Ordering.{Ordering}
use Rattle.std.specs.declared.cmp.Ordering.TheVariants.{Less, Equal, Greater}
use Rattle.edit_laws.specs.Order.{order}
use Rattle.spec.specs.Tree.{Pair, Node, Part, Last, More, Nothing, Sub, tree, top_layer, top, pairs_in, pairs_under, EachNode, EachUnder}
use Rattle.edit_laws.specs.Pairs.{Each, IsAfter, Ascending}
use Rattle.spec.specs.NodeFormat.{Shape, shape, shape_cid}
use Rattle.edit_laws.specs.Changes.{one_if_equal, marked}
use Rattle.edit_laws.specs.Trace.{size, size_under, weight, weight_under}
use Rattle.edit_laws.proofs.Orders.{order-same, order-equal}
use Rattle.spec.proofs.TreeLaws.{IsLower, lower-from_top, pairs-tree, pairs-top, each-under}
use Rattle.spec.proofs.SameTree.{same-part}

-- how often a key stands in a list
abbrev pub count_key : List ℕ → List Pair → ℕ
count_key k [] = 0
count_key k (e ∷ es) = one_if_equal (order e.0 k) + count_key k es

count_key-append : (k : List ℕ) (xs ys : List Pair) → count_key k (xs ++ ys) ≡ count_key k xs + count_key k ys
count_key-append k [] ys = omega arith
count_key-append k (x ∷ xs) ys = let i = count_key-append k xs ys in omega arith

none-after : (k : List ℕ) (es : List Pair) → Each (IsAfter k) es → count_key k es ≡ 0
none-after k [] h = refl
none-after k (e ∷ es) h = let i = none-after k es h.1 in rw h.0 (omega arith)

once-first : (k : List ℕ) (e : Pair) (es : List Pair) (o : Ordering) → order e.0 k ≡ o → Each (IsAfter e.0) es
    → count_key k es ≤ 1 → one_if_equal o + count_key k es ≤ 1
once-first k e es Less q h i = omega arith
once-first k e es Equal q h i =
    let z = none-after k es (subst (λ x. Each (IsAfter x) es) (order-equal e.0 k q) h) in omega arith
once-first k e es Greater q h i = omega arith

pub once-ascending : (k : List ℕ) (es : List Pair) → Ascending es → count_key k es ≤ 1
once-ascending k [] h = omega arith
once-ascending k (e ∷ es) h = once-first k e es (order e.0 k) refl h.0 (once-ascending k es h.1)

module _ (digest : List ℕ → List ℕ) (Kept : Shape → Type 0)
    (clashfree : (s t : Shape) → Kept s → Kept t → shape_cid digest s ≡ shape_cid digest t → s ≡ t) where
  abbrev pub IsKept : Node → Type 0
  IsKept m = Kept (shape digest m)

  -- 1 for a node with this CID
  abbrev pub hit : List ℕ → Node → ℕ
  hit c m = marked (λ k. shape_cid digest (shape digest k)) c m

  hit-zero : (o : Ordering) → (o ≡ Equal → ⊥) → one_if_equal o ≡ 0
  hit-zero Less h = refl
  hit-zero Equal h = absurd (h refl)
  hit-zero Greater h = refl

  -- a node with the CID of x is x
  hit-same : (x m : Node) → EachNode IsKept (Sub x) → EachNode IsKept (Sub m)
      → order (shape_cid digest (shape digest m)) (shape_cid digest (shape digest x)) ≡ Equal → m ≡ x
  hit-same x m h k q =
      let e = order-equal (shape_cid digest (shape digest m)) (shape_cid digest (shape digest x)) q in
      let f : Sub m ≡ Sub x = same-part digest Kept clashfree (Sub m) (Sub x) k h (cc) in cc

  mutual
    -- no smaller part has the CID of x
    none-part : (x : Node) → EachNode IsKept (Sub x) → (p : Part) → EachNode IsKept p → size p ≤ size_under x
        → weight (hit (shape_cid digest (shape digest x))) p ≡ 0
    none-part x h Nothing k l = refl
    none-part x h (Sub m) k l =
        let u = none-under x h m k.1 (omega arith) in
        let z = hit-zero (order (shape_cid digest (shape digest m)) (shape_cid digest (shape digest x)))
        (λ q. let e : size_under m ≡ size_under x = ap size_under (hit-same x m h k q) in absurd (omega arith)) in
        omega arith

    none-under : (x : Node) → EachNode IsKept (Sub x) → (m : Node) → EachUnder IsKept m
        → size_under m ≤ size_under x → weight_under (hit (shape_cid digest (shape digest x))) m ≡ 0
    none-under x h (Last p) k l = none-part x h p k l
    none-under x h (More p e r) k l =
        let a = none-part x h p k.0 (omega arith) in
        let b = none-under x h r k.1 (omega arith) in
        omega arith

  once-cases : (x : Node) → EachNode IsKept (Sub x) → (k : List ℕ) → 1 ≤ count_key k (pairs_under x) → (m : Node)
      → EachNode IsKept (Sub m)
      → (o : Ordering) → order (shape_cid digest (shape digest m)) (shape_cid digest (shape digest x)) ≡ o
      → weight_under (hit (shape_cid digest (shape digest x))) m ≤ count_key k (pairs_under m)
      → one_if_equal o + weight_under (hit (shape_cid digest (shape digest x))) m ≤ count_key k (pairs_under m)
  once-cases x h k l m g Less q i = omega arith
  once-cases x h k l m g Equal q i =
      let e = hit-same x m h g q in
      let s : size_under m ≡ size_under x = ap size_under e in
      let z = none-under x h m g.1 (omega arith) in
      let c : count_key k (pairs_under m) ≡ count_key k (pairs_under x) = ap (λ n. count_key k (pairs_under n)) e in
      omega arith
  once-cases x h k l m g Greater q i = omega arith

  mutual
    -- the CID of x stands at most as often as a key of x
    once-part : (x : Node) → EachNode IsKept (Sub x) → (k : List ℕ) → 1 ≤ count_key k (pairs_under x) → (p : Part)
        → EachNode IsKept p
        → weight (hit (shape_cid digest (shape digest x))) p ≤ count_key k (pairs_in p)
    once-part x h k l Nothing g = omega arith
    once-part x h k l (Sub m) g =
        once-cases x h k l m g (order (shape_cid digest (shape digest m)) (shape_cid digest (shape digest x))) refl
        (once-under x h k l m g.1)

    once-under : (x : Node) → EachNode IsKept (Sub x) → (k : List ℕ) → 1 ≤ count_key k (pairs_under x) → (m : Node)
        → EachUnder IsKept m
        → weight_under (hit (shape_cid digest (shape digest x))) m ≤ count_key k (pairs_under m)
    once-under x h k l (Last p) g = once-part x h k l p g
    once-under x h k l (More p e r) g =
        let a = once-part x h k l p g.0 in
        let b = once-under x h k l r g.1 in
        let c = count_key-append k (pairs_in p) (e ∷ pairs_under r) in
        omega arith

  abbrev pub HasKey : Node → Type 0
  HasKey m = (k : List ℕ) × (1 ≤ count_key k (pairs_under m))

  -- a node with a CID
  record Found (c : List ℕ) : Type 0 where
    node : Node
    is : shape_cid digest (shape digest node) ≡ c
    kept : EachNode IsKept (Sub node)
    has : HasKey node

  find-cases : (c : List ℕ) (m : Node) → EachNode IsKept (Sub m) → HasKey m → (o : Ordering)
      → order (shape_cid digest (shape digest m)) c ≡ o
      → (weight_under (hit c) m ≡ 0) ⊎ Found c → (one_if_equal o + weight_under (hit c) m ≡ 0) ⊎ Found c
  find-cases c m g k Equal q i =
      inr (record { node = m; is = order-equal (shape_cid digest (shape digest m)) c q; kept = g; has = k })
  find-cases c m g k Less q (inl z) = inl (omega arith)
  find-cases c m g k Less q (inr f) = inr f
  find-cases c m g k Greater q (inl z) = inl (omega arith)
  find-cases c m g k Greater q (inr f) = inr f

  find-both : (c : List ℕ) (a b : ℕ) → (a ≡ 0) ⊎ Found c → (b ≡ 0) ⊎ Found c → (a + b ≡ 0) ⊎ Found c
  find-both c a b (inr f) h = inr f
  find-both c a b (inl z) (inl y) = inl (omega arith)
  find-both c a b (inl z) (inr f) = inr f

  mutual
    find-part : (c : List ℕ) (p : Part) → EachNode IsKept p → EachNode HasKey p → (weight (hit c) p ≡ 0) ⊎ Found c
    find-part c Nothing g k = inl refl
    find-part c (Sub m) g k =
        find-cases c m g k.0 (order (shape_cid digest (shape digest m)) c) refl (find-under c m g.1 k.1)

    find-under : (c : List ℕ) (m : Node) → EachUnder IsKept m → EachUnder HasKey m
        → (weight_under (hit c) m ≡ 0) ⊎ Found c
    find-under c (Last p) g k = find-part c p g k
    find-under c (More p e r) g k =
        find-both c (weight (hit c) p) (weight_under (hit c) r) (find-part c p g.0 k.0) (find-under c r g.1 k.1)

  found-once : (c : List ℕ) (p : Part) → EachNode IsKept p → ((k : List ℕ) → count_key k (pairs_in p) ≤ 1)
      → (weight (hit c) p ≡ 0) ⊎ Found c → weight (hit c) p ≤ 1
  found-once c p g u (inl z) = omega arith
  found-once c p g u (inr f) =
      let l : 1 ≤ count_key f.has.0 (pairs_under f.node) = f.has.1 in
      let i = once-part f.node f.kept f.has.0 l p g in
      let j = u f.has.0 in
      subst (λ d. weight (hit d) p ≤ 1) f.is (omega arith)

  hit-most : (o : Ordering) → one_if_equal o + 0 ≤ 1
  hit-most Less = omega arith
  hit-most Equal = omega arith
  hit-most Greater = omega arith

  has-key : (layer : List ℕ → ℕ) (n : ℕ) (e : Pair) (es : List Pair) → Each (IsLower layer (suc n)) (e ∷ es)
      → HasKey (tree layer n (e ∷ es))
  has-key layer n e es h = (e.0, rw (pairs-tree layer n (e ∷ es) h) (rw (order-same e.0) (omega arith)))

  -- no CID stands twice in a tree
  pub nodes-once : (layer : List ℕ → ℕ) (es : List Pair) → Ascending es → EachNode IsKept (Sub (top layer es))
      → (c : List ℕ) → weight (hit c) (Sub (top layer es)) ≤ 1
  nodes-once layer [] s g c = hit-most (order (shape_cid digest (shape digest (top layer []))) c)
  nodes-once layer (e ∷ es) s g c =
      let n = top_layer layer (e ∷ es) in
      let low = lower-from_top layer n (e ∷ es) (omega arith) in
      found-once c (Sub (top layer (e ∷ es))) g
      (λ k. rw (pairs-top layer (e ∷ es)) (once-ascending k (e ∷ es) s))
      (find-part c (Sub (top layer (e ∷ es))) g
      (has-key layer n e es low, each-under layer HasKey (has-key layer) n (e ∷ es) low))

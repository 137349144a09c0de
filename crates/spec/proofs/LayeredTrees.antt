-- A tree goes down layer by layer without an empty subtree, and is the only one of its pairs that does.
use Rattle.std.proofs.Common.{◌≡◌, ◌≢◌, ℕ, zero, suc, ◌<◌, List, [], ◌∷◌, ◌++◌, refl, sym, ap, ◌∙◌, arith}
use Rattle.std.specs.List.{AllByRecursion}
use Rattle.spec.specs.Tree.{Pair, Node, Last, More, Part, Nothing, Sub, Groups, LastGroup, MoreGroups, cut, node_of, below, tree, top, top_layer, pairs_in, pairs_under, EachNode, EachUnder, joined, EachLayer, AreGroups}
use Rattle.spec.specs.Laws.Tree.{HasLayer, IsJustBelow, HasPairs}
use Rattle.spec.proofs.TreeLaws.{AreGroups-cut, cut-joined, IsLower, lower-from_top, pairs-tree, each-under}

-- ---- layer by layer

HasLayer-groups : (layer : List ℕ → ℕ) (n : ℕ) (part : List Pair → Part) → ((g : List Pair) → IsJustBelow layer n (part g)) → (g : Groups) → AreGroups layer n g → HasLayer layer n (node_of part g)
HasLayer-groups layer n part h (LastGroup g) are = h g
HasLayer-groups layer n part h (MoreGroups g e r) are = (h g, are.1, HasLayer-groups layer n part h r are.2)

IsJustBelow-below : (layer : List ℕ → ℕ) (n : ℕ) (es : List Pair) → IsJustBelow layer n (below layer n es)
IsJustBelow-below layer zero es = tt
IsJustBelow-below layer (suc n) [] = tt
IsJustBelow-below layer (suc n) (e ∷ es) = HasLayer-groups layer n (below layer n) (IsJustBelow-below layer n) (cut layer n (e ∷ es)) (AreGroups-cut layer n (e ∷ es))

pub HasLayer-top : (layer : List ℕ → ℕ) (es : List Pair) → HasLayer layer (top_layer layer es) (top layer es)
HasLayer-top layer es = let n = top_layer layer es in HasLayer-groups layer n (below layer n) (IsJustBelow-below layer n) (cut layer n es) (AreGroups-cut layer n es)

-- ---- no empty subtree

HasPairs-tree : (layer : List ℕ → ℕ) (n : ℕ) (e : Pair) (es : List Pair) → AllByRecursion (IsLower layer (suc n)) (e ∷ es) → HasPairs (tree layer n (e ∷ es))
HasPairs-tree layer n e es lower none = let p : e ∷ es ≡ [] = sym (pairs-tree layer n (e ∷ es) lower) ∙ none in cc

pub HasPairs-top : (layer : List ℕ → ℕ) (es : List Pair) → EachUnder HasPairs (top layer es)
HasPairs-top layer es = each-under layer HasPairs (HasPairs-tree layer) (top_layer layer es) es (lower-from_top layer (top_layer layer es) es (omega arith))

-- ---- the only tree

All-join : {X : Type 0} (P : X → Type 0) (xs : List X) (x : X) (ys : List X) → AllByRecursion P xs → P x → AllByRecursion P ys → AllByRecursion P (xs ++ x ∷ ys)
All-join P [] x ys h p k = (p, k)
All-join P (y ∷ xs) x ys h p k = (h.0, All-join P xs x ys h.1 p k)

lower-more : (layer : List ℕ → ℕ) (n : ℕ) (es : List Pair) → AllByRecursion (IsLower layer n) es → AllByRecursion (IsLower layer (suc n)) es
lower-more layer n [] h = tt
lower-more layer n (e ∷ es) h = (let l : layer e.0 < n = h.0 in omega arith, lower-more layer n es h.1)

mutual
  lower-part : (layer : List ℕ → ℕ) (n : ℕ) (p : Part) → IsJustBelow layer n p → AllByRecursion (IsLower layer n) (pairs_in p)
  lower-part layer n Nothing h = tt
  lower-part layer zero (Sub m) h = absurd h
  lower-part layer (suc n) (Sub m) h = lower-node layer n m h

  lower-node : (layer : List ℕ → ℕ) (n : ℕ) (m : Node) → HasLayer layer n m → AllByRecursion (IsLower layer (suc n)) (pairs_under m)
  lower-node layer n (Last p) h = lower-more layer n (pairs_in p) (lower-part layer n p h)
  lower-node layer n (More p e r) h =
      All-join (IsLower layer (suc n)) (pairs_in p) e (pairs_under r) (lower-more layer n (pairs_in p) (lower-part layer n p h.0)) (let l = h.1 in omega arith) (lower-node layer n r h.2)

-- a node's pairs in groups
abbrev groups_of : Node → Groups
groups_of (Last p) = LastGroup (pairs_in p)
groups_of (More p e r) = MoreGroups (pairs_in p) e (groups_of r)

joined-groups : (m : Node) → joined (groups_of m) ≡ pairs_under m
joined-groups (Last p) = refl
joined-groups (More p e r) = ap (λ (t : List Pair). pairs_in p ++ e ∷ t) (joined-groups r)

other_layer : (layer : List ℕ → ℕ) (n : ℕ) (es : List Pair) → AllByRecursion (IsLower layer n) es → EachLayer layer (λ l. l ≢ n) es
other_layer layer n [] h = tt
other_layer layer n (e ∷ es) h = (let l : layer e.0 < n = h.0 in λ same. omega arith, other_layer layer n es h.1)

AreGroups-groups : (layer : List ℕ → ℕ) (n : ℕ) (m : Node) → HasLayer layer n m → AreGroups layer n (groups_of m)
AreGroups-groups layer n (Last p) h = other_layer layer n (pairs_in p) (lower-part layer n p h)
AreGroups-groups layer n (More p e r) h = (other_layer layer n (pairs_in p) (lower-part layer n p h.0), h.1, AreGroups-groups layer n r h.2)

cut-node : (layer : List ℕ → ℕ) (n : ℕ) (m : Node) → HasLayer layer n m → cut layer n (pairs_under m) ≡ groups_of m
cut-node layer n m h = ap (cut layer n) (sym (joined-groups m)) ∙ cut-joined layer n (groups_of m) (AreGroups-groups layer n m h)

below-some : (layer : List ℕ → ℕ) (n : ℕ) (es : List Pair) → es ≢ [] → below layer (suc n) es ≡ Sub (tree layer n es)
below-some layer n [] some = absurd (some refl)
below-some layer n (e ∷ es) some = refl

mutual
  only-part : (layer : List ℕ → ℕ) (n : ℕ) (p : Part) → IsJustBelow layer n p → EachNode HasPairs p → p ≡ below layer n (pairs_in p)
  only-part layer zero Nothing h k = refl
  only-part layer (suc n) Nothing h k = refl
  only-part layer zero (Sub m) h k = absurd h
  only-part layer (suc n) (Sub m) h k =
      ap Sub (only-groups layer n m h k.1 ∙ ap (node_of (below layer n)) (sym (cut-node layer n m h)))
      ∙ sym (below-some layer n (pairs_under m) k.0)

  only-groups : (layer : List ℕ → ℕ) (n : ℕ) (m : Node) → HasLayer layer n m → EachUnder HasPairs m → m ≡ node_of (below layer n) (groups_of m)
  only-groups layer n (Last p) h k = ap Last (only-part layer n p h k)
  only-groups layer n (More p e r) h k =
      let first = only-part layer n p h.0 k.0 in
      let rest = only-groups layer n r h.2 k.1 in
      λ i. More (first i) e (rest i)

pub only-top : (layer : List ℕ → ℕ) (es : List Pair) (m : Node) → pairs_under m ≡ es → HasLayer layer (top_layer layer es) m → EachUnder HasPairs m → m ≡ top layer es
only-top layer es m pairs h k =
    let n = top_layer layer es in
    only-groups layer n m h k ∙ ap (node_of (below layer n)) (sym (cut-node layer n m h)) ∙ ap (tree layer n) pairs

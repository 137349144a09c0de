-- Where a key stands in a node of a tree, and what that says of the key's value: the step of each look-up down a tree.
use Rattle.std.proofs.Common.{◌≡◌, ℕ, true, cond, List, [], ◌∷◌, ◌++◌, Some, None, refl, sym, ap, subst, ◌∙◌}
use Rattle.std.specs.Cmp.Lexicographic.{slice_cmp}
use Rattle.std.specs.Ordering.{nat_cmp, is_lt, is_eq, ordering_reverse}
use Rattle.std.specs.declared.cmp.Ordering.{Ordering}
use Rattle.std.specs.declared.cmp.Ordering.TheVariants.{Less, Equal, Greater}
use Rattle.std.specs.FinMap.{is_sorted}
use Rattle.std.specs.FinMap.Entries.{below_all}
use Rattle.std.proofs.lemmas.Cmp.{nat_list_cmp_total}
use Rattle.std.proofs.lemmas.Map.Text.{is_eq-slice_cmp}
use Rattle.std.proofs.lemmas.Slice.Eq.{bytes_eq-Decides}
use Rattle.spec.specs.Tree.{Pair, Node, Last, More, Part, Nothing, Sub, top, pairs_in, pairs_under, EachNode, EachUnder}
use Rattle.spec.specs.NodeFormat.{Entry, first_link, entries_of, part_link, shape, shape_cid, node_bytes}
use Rattle.spec.specs.Blocks.{ArePairs, value_of}
use Rattle.spec.specs.Proof.{by_order, Place, Here, Below, Gap, gap_of, place, path_in, path_under}
use Rattle.spec.proofs.NodeLaws.{both}
use Rattle.spec.proofs.TreeLaws.{pairs-top}
use Rattle.spec.proofs.TreeNodes.{below_all-append, is_sorted-append}

-- ---- keys in order

abbrev compared : List ℕ → List ℕ → Ordering
compared x y = slice_cmp nat_cmp x y

turned : (x y : List ℕ) (o : Ordering) → compared x y ≡ o → compared y x ≡ ordering_reverse o
turned x y o h = nat_list_cmp_total.antisymm y x ∙ ap ordering_reverse h

less_is : (o : Ordering) → is_lt o ≡ true → o ≡ Less
less_is Less h = refl
less_is Equal h = absurd cc
less_is Greater h = absurd cc

pub same_key : (x y : List ℕ) → slice_cmp nat_cmp x y ≡ Equal → x ≡ y
same_key x y h = (bytes_eq-Decides x y).0 (sym (is_eq-slice_cmp x y) ∙ ap is_eq h)

below_all-less : (x y : List ℕ) (es : List Pair) → compared x y ≡ Less → below_all (slice_cmp nat_cmp) y es ≡ true → below_all (slice_cmp nat_cmp) x es ≡ true
below_all-less x y [] l h = refl
below_all-less x y (e ∷ es) l h =
    let p = both (is_lt (compared y e.0)) (below_all (slice_cmp nat_cmp) y es) h in
    let first : compared x e.0 ≡ Less = nat_list_cmp_total.trans x y e.0 l (less_is _ p.0) in
    rw first (below_all-less x y es l p.1)

-- ---- the value of a key in sorted pairs, by one of them

none_below : (key : List ℕ) (es : List Pair) → below_all (slice_cmp nat_cmp) key es ≡ true → value_of key es ≡ None
none_below key [] h = refl
none_below key (e ∷ es) h =
    let p = both (is_lt (compared key e.0)) (below_all (slice_cmp nat_cmp) key es) h in
    let first : compared key e.0 ≡ Less = less_is _ p.0 in
    rw first (none_below key es p.1)

at_first : (key : List ℕ) (e : Pair) (es : List Pair) (o : Ordering) → compared e.0 key ≡ o → below_all (slice_cmp nat_cmp) e.0 es ≡ true
    → value_of key (e ∷ es) ≡ by_order o (value_of key es) (Some e.1) None
at_first key e es Less h above = rw (turned e.0 key Less h) refl
at_first key e es Equal h above = rw (turned e.0 key Equal h) refl
at_first key e es Greater h above =
    let back : compared key e.0 ≡ Less = turned e.0 key Greater h in
    rw back (none_below key es (below_all-less key e.0 es back above))

-- one more pair in front, whose key is below that of e
before_first : (key : List ℕ) (x e : Pair) (xs ys rest : List Pair) (o : Ordering) → compared e.0 key ≡ o → compared x.0 e.0 ≡ Less
    → value_of key rest ≡ by_order o (value_of key ys) (Some e.1) (value_of key xs)
    → value_of key (x ∷ rest) ≡ by_order o (value_of key ys) (Some e.1) (value_of key (x ∷ xs))
before_first key x e xs ys rest Less h l i = rw (turned x.0 key Less (nat_list_cmp_total.trans x.0 e.0 key l h)) i
before_first key x e xs ys rest Equal h l i =
    let over : compared key x.0 ≡ Greater = sym (nat_list_cmp_total.congr e.0 key x.0 h) ∙ turned x.0 e.0 Less l in
    rw over i
before_first key x e xs ys rest Greater h l i = ap (cond (is_eq (compared key x.0)) (Some x.1)) i

-- a look-up goes on after a pair below the key, ends at the key, and goes on before a pair above the key
pub value_of-around : (key : List ℕ) (xs : List Pair) (e : Pair) (ys : List Pair) → is_sorted (slice_cmp nat_cmp) (xs ++ e ∷ ys) ≡ true
    → value_of key (xs ++ e ∷ ys) ≡ by_order (slice_cmp nat_cmp e.0 key) (value_of key ys) (Some e.1) (value_of key xs)
value_of-around key [] e ys sorted =
    at_first key e ys (compared e.0 key) refl (both (below_all (slice_cmp nat_cmp) e.0 ys) (is_sorted (slice_cmp nat_cmp) ys) sorted).0
value_of-around key (x ∷ xs) e ys sorted =
    let p = both (below_all (slice_cmp nat_cmp) x.0 (xs ++ e ∷ ys)) (is_sorted (slice_cmp nat_cmp) (xs ++ e ∷ ys)) sorted in
    let over = (below_all-append x.0 xs (e ∷ ys) p.0).1 in
    let less = less_is _ (both (is_lt (compared x.0 e.0)) (below_all (slice_cmp nat_cmp) x.0 ys) over).0 in
    before_first key x e xs ys (xs ++ e ∷ ys) (compared e.0 key) refl less (value_of-around key xs e ys p.1)

-- ---- the part in which a look-up goes on

-- the part before the first pair that isn't below the key
abbrev pub part_at : List ℕ → Node → Part
part_at key (Last p) = p
part_at key (More p e r) = by_order (slice_cmp nat_cmp e.0 key) (part_at key r) p p

each-case : (P : Node → Type 0) (p q : Part) (o : Ordering) → EachNode P p → EachNode P q → EachNode P (by_order o q p p)
each-case P p q Less h k = k
each-case P p q Equal h k = h
each-case P p q Greater h k = h

-- what holds of each node below a node holds of each node of that part
pub each-part_at : (P : Node → Type 0) (key : List ℕ) (m : Node) → EachUnder P m → EachNode P (part_at key m)
each-part_at P key (Last p) h = h
each-part_at P key (More p e r) h = each-case P p (part_at key r) (slice_cmp nat_cmp e.0 key) h.0 (each-part_at P key r h.1)

-- ---- where a key stands in a node

-- at an entry, which has its value
pub record IsHere (digest : List ℕ → List ℕ) (key : List ℕ) (m : Node) (e : Entry) : Type 0 where
  pub same : e.key ≡ key
  pub value : value_of key (pairs_under m) ≡ Some e.value
  pub path : path_under digest key m ≡ []

-- below a link, which is that of a node in which the look-up goes on
pub record IsBelow (digest : List ℕ → List ℕ) (key : List ℕ) (m : Node) (c : List ℕ) : Type 0 where
  pub node : Node
  pub part : part_at key m ≡ Sub node
  pub link : shape_cid digest (shape digest node) ≡ c
  pub sorted : is_sorted (slice_cmp nat_cmp) (pairs_under node) ≡ true
  pub value : value_of key (pairs_under m) ≡ value_of key (pairs_under node)
  pub path : path_under digest key m ≡ node_bytes digest node ∷ path_under digest key node

-- in a gap without a link: it has no value
pub record IsGap (digest : List ℕ → List ℕ) (key : List ℕ) (m : Node) : Type 0 where
  pub part : part_at key m ≡ Nothing
  pub value : value_of key (pairs_under m) ≡ None
  pub path : path_under digest key m ≡ []

abbrev pub IsPlace : (List ℕ → List ℕ) → List ℕ → Node → Place → Type 0
IsPlace digest key m (Here e) = IsHere digest key m e
IsPlace digest key m (Below c) = IsBelow digest key m c
IsPlace digest key m Gap = IsGap digest key m

module _ (digest : List ℕ → List ℕ) (key : List ℕ) where
  -- m has the key where r has it
  record IsLike (m r : Node) : Type 0 where
    part : part_at key m ≡ part_at key r
    value : value_of key (pairs_under m) ≡ value_of key (pairs_under r)
    path : path_under digest key m ≡ path_under digest key r

  like-place : (m r : Node) → IsLike m r → (at : Place) → IsPlace digest key r at → IsPlace digest key m at
  like-place m r like (Here e) is = record { same = is.same; value = like.value ∙ is.value; path = like.path ∙ is.path }
  like-place m r like (Below c) is = record {
    node = is.node;
    part = like.part ∙ is.part;
    link = is.link;
    sorted = is.sorted;
    value = like.value ∙ is.value;
    path = like.path ∙ is.path;
  }
  like-place m r like Gap is = record { part = like.part ∙ is.part; value = like.value ∙ is.value; path = like.path ∙ is.path }

  -- m has the key in this part
  record IsIn (m : Node) (p : Part) : Type 0 where
    part : part_at key m ≡ p
    value : value_of key (pairs_under m) ≡ value_of key (pairs_in p)
    path : path_under digest key m ≡ path_in digest key p

  in-place : (m : Node) (p : Part) → is_sorted (slice_cmp nat_cmp) (pairs_in p) ≡ true → IsIn m p → IsPlace digest key m (gap_of (part_link digest p))
  in-place m Nothing sorted is = record { part = is.part; value = is.value; path = is.path }
  in-place m (Sub n) sorted is = record { node = n; part = is.part; link = refl; sorted = sorted; value = is.value; path = is.path }

  abbrev place_in : Node → Place
  place_in m = place key (first_link (shape digest m)) (entries_of (shape digest m))

  abbrev row : Pair → Node → Entry
  row e r = record { key = e.0; value = e.1; tree = first_link (shape digest r) }

  row-place : (p : Part) (e : Pair) (r : Node) (o : Ordering) → slice_cmp nat_cmp e.0 key ≡ o → is_sorted (slice_cmp nat_cmp) (pairs_under (More p e r)) ≡ true → IsPlace digest key r (place_in r)
      → IsPlace digest key (More p e r) (by_order o (place_in r) (Here (row e r)) (gap_of (part_link digest p)))
  row-place p e r Less h sorted i =
      let around = value_of-around key (pairs_in p) e (pairs_under r) sorted in
      let like : IsLike (More p e r) r = record { part = rw h refl; value = rw h at around; path = rw h refl } in
      like-place (More p e r) r like (place_in r) i
  row-place p e r Equal h sorted i =
      let around = value_of-around key (pairs_in p) e (pairs_under r) sorted in
      record { same = same_key e.0 key h; value = rw h at around; path = rw h refl }
  row-place p e r Greater h sorted i =
      let around = value_of-around key (pairs_in p) e (pairs_under r) sorted in
      let is : IsIn (More p e r) p = record { part = rw h refl; value = rw h at around; path = rw h refl } in
      in-place (More p e r) p (is_sorted-append (pairs_in p) (e ∷ pairs_under r) sorted).0 is

  -- the place of a key in what the block of a node shows, where the pairs under the node are sorted
  pub place-node : (m : Node) → is_sorted (slice_cmp nat_cmp) (pairs_under m) ≡ true → IsPlace digest key m (place key (first_link (shape digest m)) (entries_of (shape digest m)))
  place-node (Last p) sorted = in-place (Last p) p sorted (record { part = refl; value = refl; path = refl })
  place-node (More p e r) sorted =
      let rest = (is_sorted-append (e ∷ []) (pairs_under r) (is_sorted-append (pairs_in p) (e ∷ pairs_under r) sorted).1).1 in
      row-place p e r (slice_cmp nat_cmp e.0 key) refl sorted (place-node r rest)

  -- what holds of each node below a node holds of the node below the link, and of each node below it
  pub each-below_link : (P : Node → Type 0) (m : Node) (c : List ℕ) (is : IsBelow digest key m c) → EachUnder P m → P is.node × EachUnder P is.node
  each-below_link P m c is h = subst (EachNode P) is.part (each-part_at P key m h)

-- ---- the top

-- a look-up begins at the top of the tree of its pairs
pub value_of-top : (layer : List ℕ → ℕ) (key : List ℕ) (es : List Pair) → value_of key (pairs_under (top layer es)) ≡ value_of key es
value_of-top layer key es = ap (value_of key) (pairs-top layer es)

pub sorted-top : (layer : List ℕ → ℕ) (es : List Pair) → ArePairs es → is_sorted (slice_cmp nat_cmp) (pairs_under (top layer es)) ≡ true
sorted-top layer es are = ap (is_sorted (slice_cmp nat_cmp)) (pairs-top layer es) ∙ are.sorted

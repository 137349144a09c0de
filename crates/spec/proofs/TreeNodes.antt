-- Each node of a tree has bytes of the node grammar, so that it is read as it was written.
use Rattle.std.proofs.Common.{◌≡◌, ℕ, zero, suc, ◌≤◌, true, List, [], ◌∷◌, ◌++◌, length, Ok, refl, sym, subst, arith}
use Rattle.std.specs.List.{AllByRecursion}
use Rattle.std.specs.Cmp.Lexicographic.{slice_cmp}
use Rattle.std.specs.Ordering.{nat_cmp, is_lt}
use Rattle.std.specs.FinMap.{is_sorted}
use Rattle.std.specs.FinMap.Entries.{below_all}
use Rattle.std.proofs.lemmas.Bool.{lt-ltb}
use Rattle.std.proofs.lemmas.List.{length-append}
use Rattle.spec.specs.Cid.{is_own_cid, cid}
use Rattle.spec.specs.Tree.{Pair, Node, Part, Nothing, Sub, Groups, LastGroup, MoreGroups, cut, node_of, below, top, top_layer, joined, EachNode, EachUnder}
use Rattle.spec.specs.NodeFormat.{is_key, are_keys_after, is_own_cid_or_none, are_links, is_node, Shape, first_link, entries_of, shape, shape_bytes, part_link, read_node}
use Rattle.spec.specs.Blocks.{ArePairs}
use Rattle.spec.proofs.TreeLaws.{joined-cut}
pub use Rattle.spec.specs.Laws.Nodes.{IsLawful}
use Rattle.spec.proofs.Bools.{both, and}
use Rattle.spec.proofs.NodeLaws.{read_node-node_spelling}

All-append : {X : Type 0} (P : X → Type 0) (xs ys : List X) → AllByRecursion P (xs ++ ys) → AllByRecursion P xs × AllByRecursion P ys
All-append P [] ys all = (tt, all)
All-append P (x ∷ xs) ys all = let r = All-append P xs ys all.1 in ((all.0, r.0), r.1)

pub below_all-append : (k : List ℕ) (xs ys : List Pair) → below_all (slice_cmp nat_cmp) k (xs ++ ys) ≡ true → (below_all (slice_cmp nat_cmp) k xs ≡ true) × (below_all (slice_cmp nat_cmp) k ys ≡ true)
below_all-append k [] ys h = (refl, h)
below_all-append k (x ∷ xs) ys h =
    let p = both (is_lt (slice_cmp nat_cmp k x.0)) (below_all (slice_cmp nat_cmp) k (xs ++ ys)) h in
    let r = below_all-append k xs ys p.1 in (and _ _ p.0 r.0, r.1)

pub is_sorted-append : (xs ys : List Pair) → is_sorted (slice_cmp nat_cmp) (xs ++ ys) ≡ true → (is_sorted (slice_cmp nat_cmp) xs ≡ true) × (is_sorted (slice_cmp nat_cmp) ys ≡ true)
is_sorted-append [] ys h = (refl, h)
is_sorted-append (x ∷ xs) ys h =
    let p = both (below_all (slice_cmp nat_cmp) x.0 (xs ++ ys)) (is_sorted (slice_cmp nat_cmp) (xs ++ ys)) h in
    let r = is_sorted-append xs ys p.1 in (and _ _ (below_all-append x.0 xs ys p.0).0 r.0, r.1)

pub ArePairs-append : (xs ys : List Pair) → ArePairs (xs ++ ys) → ArePairs xs × ArePairs ys
ArePairs-append xs ys are =
    let s = is_sorted-append xs ys are.sorted in
    let k = All-append (λ e. is_key e.0 ≡ true) xs ys are.keys in
    let v = All-append (λ e. is_own_cid e.1 ≡ true) xs ys are.values in
    let n = length-append xs ys in
    (record { sorted = s.0; keys = k.0; values = v.0; count = omega (arith, are.count) }, record { sorted = s.1; keys = k.1; values = v.1; count = omega (arith, are.count) })

-- ---- one node

length-entries : (digest : List ℕ → List ℕ) (part : List Pair → Part) (g : Groups) → length (entries_of (shape digest (node_of part g))) ≤ length (joined g)
length-entries digest part (LastGroup g) = omega arith
length-entries digest part (MoreGroups g e r) = let rest = length-entries digest part r in let n = length-append g (e ∷ joined r) in omega arith

is_own_cid-cid : (digest : List ℕ → List ℕ) (bytes : List ℕ) → length (digest bytes) ≡ 32 → is_own_cid (cid digest bytes) ≡ true
unfolding cid
is_own_cid-cid digest bytes e = rw e refl

own_part : (digest : List ℕ → List ℕ) → ((bytes : List ℕ) → length (digest bytes) ≡ 32) → (p : Part) → is_own_cid_or_none (part_link digest p) ≡ true
own_part digest fits Nothing = refl
own_part digest fits (Sub m) = is_own_cid-cid digest (shape_bytes (shape digest m)) (fits (shape_bytes (shape digest m)))

own_first : (digest : List ℕ → List ℕ) (part : List Pair → Part) → ((bytes : List ℕ) → length (digest bytes) ≡ 32) → (g : Groups) → is_own_cid_or_none (first_link (shape digest (node_of part g))) ≡ true
own_first digest part fits (LastGroup g) = own_part digest fits (part g)
own_first digest part fits (MoreGroups g e r) = own_part digest fits (part g)

are_links-entries : (digest : List ℕ → List ℕ) (part : List Pair → Part) → ((bytes : List ℕ) → length (digest bytes) ≡ 32) → (g : Groups) → ArePairs (joined g) → are_links (entries_of (shape digest (node_of part g))) ≡ true
are_links-entries digest part fits (LastGroup g) are = refl
are_links-entries digest part fits (MoreGroups g e r) are =
    let p = ArePairs-append g (e ∷ joined r) are in
    and _ _ (and _ _ p.1.values.0 (own_first digest part fits r)) (are_links-entries digest part fits r (ArePairs-append (e ∷ []) (joined r) p.1).1)

are_keys-entries : (digest : List ℕ → List ℕ) (part : List Pair → Part) (before : List ℕ) (g : Groups) → below_all (slice_cmp nat_cmp) before (joined g) ≡ true → ArePairs (joined g)
    → are_keys_after before (entries_of (shape digest (node_of part g))) ≡ true
are_keys-entries digest part before (LastGroup g) above are = refl
are_keys-entries digest part before (MoreGroups g e r) above are =
    let p = ArePairs-append g (e ∷ joined r) are in
    let over = (below_all-append before g (e ∷ joined r) above).1 in
    let first = both (is_lt (slice_cmp nat_cmp before e.0)) (below_all (slice_cmp nat_cmp) before (joined r)) over in
    let own = both (below_all (slice_cmp nat_cmp) e.0 (joined r)) (is_sorted (slice_cmp nat_cmp) (joined r)) p.1.sorted in
    and _ _ (and _ _ first.0 p.1.keys.0) (are_keys-entries digest part e.0 r own.0 (ArePairs-append (e ∷ []) (joined r) p.1).1)

-- the empty string is below each key
nil_below : (es : List Pair) → AllByRecursion (λ e. is_key e.0 ≡ true) es → below_all (slice_cmp nat_cmp) [] es ≡ true
nil_below [] keys = refl
nil_below (e ∷ es) keys = and _ _ (nil_below_key e.0 keys.0) (nil_below es keys.1)
  where
    nil_below_key : (k : List ℕ) → is_key k ≡ true → is_lt (slice_cmp nat_cmp [] k) ≡ true
    nil_below_key [] h = absurd cc
    nil_below_key (x ∷ k) h = refl

-- what a block shows is of the grammar
abbrev pub IsLawfulShape : Shape → Type 0
IsLawfulShape s = is_node (first_link s) (entries_of s) ≡ true

IsLawful-node_of : (digest : List ℕ → List ℕ) (part : List Pair → Part) → ((bytes : List ℕ) → length (digest bytes) ≡ 32) → (g : Groups) → ArePairs (joined g) → IsLawful digest (node_of part g)
IsLawful-node_of digest part fits g are =
    let n = length-entries digest part g in
    and _ _ (and _ _ (and _ _ (lt-ltb _ _ (omega (arith, are.count))) (are_keys-entries digest part [] g (nil_below (joined g) are.keys) are)) (are_links-entries digest part fits g are)) (own_first digest part fits g)

-- ---- all nodes

each_of_groups : (P : Node → Type 0) (part : List Pair → Part) → ((es : List Pair) → ArePairs es → EachNode P (part es)) → (g : Groups) → ArePairs (joined g) → EachUnder P (node_of part g)
each_of_groups P part each (LastGroup g) are = each g are
each_of_groups P part each (MoreGroups g e r) are =
    let p = ArePairs-append g (e ∷ joined r) are in
    (each g p.0, each_of_groups P part each r (ArePairs-append (e ∷ []) (joined r) p.1).1)

each_of_cut : (digest : List ℕ → List ℕ) (layer : List ℕ → ℕ) (n : ℕ) (part : List Pair → Part) → ((bytes : List ℕ) → length (digest bytes) ≡ 32)
    → ((es : List Pair) → ArePairs es → EachNode (IsLawful digest) (part es)) → (es : List Pair) → ArePairs es → EachNode (IsLawful digest) (Sub (node_of part (cut layer n es)))
each_of_cut digest layer n part fits each es are =
    let whole : ArePairs (joined (cut layer n es)) = subst ArePairs (sym (joined-cut layer n es)) are in
    (IsLawful-node_of digest part fits (cut layer n es) whole, each_of_groups (IsLawful digest) part each (cut layer n es) whole)

each_below : (digest : List ℕ → List ℕ) (layer : List ℕ → ℕ) → ((bytes : List ℕ) → length (digest bytes) ≡ 32) → (n : ℕ) (es : List Pair) → ArePairs es → EachNode (IsLawful digest) (below layer n es)
each_below digest layer fits zero es are = tt
each_below digest layer fits (suc n) [] are = tt
each_below digest layer fits (suc n) (e ∷ es) are = each_of_cut digest layer n (below layer n) fits (λ fs. each_below digest layer fits n fs) (e ∷ es) are

-- each node of the tree of any pairs has bytes of the grammar
pub EachNode-top : (digest : List ℕ → List ℕ) (layer : List ℕ → ℕ) → ((bytes : List ℕ) → length (digest bytes) ≡ 32) → (es : List Pair) → ArePairs es → EachNode (IsLawful digest) (Sub (top layer es))
EachNode-top digest layer fits es are = each_of_cut digest layer (top_layer layer es) (below layer (top_layer layer es)) fits (λ fs. each_below digest layer fits (top_layer layer es) fs) es are

-- what is of the grammar is read as it was written
pub read_node-shape_bytes : (s : Shape) → IsLawfulShape s → read_node (shape_bytes s) ≡ Ok (first_link s, entries_of s)
read_node-shape_bytes s is = read_node-node_spelling (first_link s) (entries_of s) is

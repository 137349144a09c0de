-- Where no two nodes of a tree clash, no node stands twice among its blocks.
use Rattle.std.proofs.Common.{◌≡◌, ◌≢◌, ◌⊎◌, inl, inr, ℕ, zero, suc, ◌+◌, ◌<◌, ◌≤◌, Bool, true, false, not, cond, List, [], ◌∷◌, ◌++◌, length, get_or, refl, sym, ap, subst, ◌∙◌, arith}
use Rattle.std.specs.Prelude.{Contains, filter}
use Rattle.std.specs.List.{AllByRecursion}
use Rattle.std.specs.Str.{bytes_eq}
use Rattle.std.specs.Cmp.Lexicographic.{slice_cmp}
use Rattle.std.specs.Ordering.{nat_cmp, is_lt}
use Rattle.std.specs.FinMap.{is_sorted}
use Rattle.std.specs.FinMap.Entries.{below_all}
use Rattle.std.proofs.lemmas.Cmp.{nat_list_cmp_total, tied_itself}
use Rattle.std.proofs.lemmas.List.{append-nil}
use Rattle.std.proofs.lemmas.List.Elements.{Contains-append_left, Contains-append_right, Contains-append_cases}
use Rattle.std.proofs.lemmas.Slice.Eq.{bytes_eq-Decides}
use Rattle.spec.specs.Cid.{cid}
use Rattle.spec.specs.Layer.{layer}
use Rattle.spec.specs.Tree.{Pair, Node, Last, More, Part, Nothing, Sub, tree, top, top_layer, pairs_in, pairs_under, EachNode, EachUnder}
use Rattle.spec.specs.NodeFormat.{Shape, shape, shape_cid, node_bytes}
use Rattle.spec.specs.Blocks.{blocks_in, blocks_under, no_record, nodes, firsts, ArePairs, IsClashFree}
use Rattle.spec.proofs.Bools.{both}
use Rattle.spec.proofs.TreeLaws.{IsLower, lower-from_top, pairs-tree, pairs-top, each-under}
use Rattle.spec.proofs.TreeNodes.{is_sorted-append}
use Rattle.spec.proofs.SameTree.{Stands, same-part, free_shapes}
use Rattle.spec.proofs.RootLaws.{in_head, in_tail, stands-top}

-- ---- a list in which no mark stands twice

-- no two of the elements have one mark
abbrev pub Once : (List ℕ → List ℕ) → List (List ℕ) → Type 0
Once mark [] = Unit {0}
Once mark (b ∷ bs) = ((c : List ℕ) → Contains bs c → mark b ≢ mark c) × Once mark bs

not_true : (t : Bool) → (t ≡ true → ⊥) → not t ≡ true
not_true true h = absurd (h refl)
not_true false h = refl

filter-all : (p : List ℕ → Bool) (xs : List (List ℕ)) → ((c : List ℕ) → Contains xs c → p c ≡ true) → filter p xs ≡ xs
filter-all p [] h = refl
filter-all p (x ∷ xs) h =
    ap (λ t. cond t (x ∷ filter p xs) (filter p xs)) (h x (in_head x xs))
    ∙ ap (λ (ys : List (List ℕ)). x ∷ ys) (filter-all p xs (λ c i. h c (in_tail x c xs i)))

-- such a list is that of its first elements
pub firsts-Once : (mark : List ℕ → List ℕ) (bs : List (List ℕ)) → Once mark bs → firsts mark bs ≡ bs
firsts-Once mark [] once = refl
firsts-Once mark (b ∷ bs) once =
    ap (λ (xs : List (List ℕ)). b ∷ filter (λ c. not (bytes_eq (mark b) (mark c))) xs) (firsts-Once mark bs once.1)
    ∙ ap (λ (xs : List (List ℕ)). b ∷ xs)
    (filter-all (λ c. not (bytes_eq (mark b) (mark c))) bs (λ c i. not_true _ (λ t. once.0 c i ((bytes_eq-Decides (mark b) (mark c)).0 t))))

apart_from_all : (mark : List ℕ → List ℕ) (x c : List ℕ) (xs ys : List (List ℕ)) → ((a : List ℕ) → Contains xs a → mark x ≢ mark a) → ((b : List ℕ) → Contains ys b → mark x ≢ mark b)
    → Contains xs c ⊎ Contains ys c → mark x ≢ mark c
apart_from_all mark x c xs ys h k (inl i) = h c i
apart_from_all mark x c xs ys h k (inr i) = k c i

Once-append : (mark : List ℕ → List ℕ) (xs ys : List (List ℕ)) → Once mark xs → Once mark ys → ((a b : List ℕ) → Contains xs a → Contains ys b → mark a ≢ mark b) → Once mark (xs ++ ys)
Once-append mark [] ys of_xs of_ys apart = of_ys
Once-append mark (x ∷ xs) ys of_xs of_ys apart = (
  λ c i. apart_from_all mark x c xs ys of_xs.0 (λ b j. apart x b (in_head x xs) j) (Contains-append_cases xs ys c i),
  Once-append mark xs ys of_xs.1 of_ys (λ a b i j. apart a b (in_tail x a xs i) j),
)

-- ---- a list of pairs whose keys ascend strictly

at_one : {X : Type 0} (x y : X) (k : ℕ) → k < length (y ∷ []) → get_or (y ∷ []) k x ≡ x → y ≡ x
at_one x y zero lt e = e
at_one x y (suc k) lt e = absurd (omega arith)

one_of : {X : Type 0} (x y : X) (ys : List X) → Contains (y ∷ []) x ⊎ Contains ys x → (y ≡ x) ⊎ Contains ys x
one_of x y ys (inl i) = inl (at_one x y i.0 i.1 i.2)
one_of x y ys (inr i) = inr i

pub head_or_tail : {X : Type 0} (x y : X) (ys : List X) → Contains (y ∷ ys) x → (y ≡ x) ⊎ Contains ys x
head_or_tail x y ys i = one_of x y ys (Contains-append_cases (y ∷ []) ys x i)

not_below_itself : (k : List ℕ) → is_lt (slice_cmp nat_cmp k k) ≡ true → ⊥
not_below_itself k h = let e = tied_itself nat_list_cmp_total k in let f = ap is_lt e in absurd cc

below_each : (k : List ℕ) (x : Pair) (xs ys : List Pair) → below_all (slice_cmp nat_cmp) k (xs ++ ys) ≡ true → Contains ys x → is_lt (slice_cmp nat_cmp k x.0) ≡ true
below_each k x [] [] h i = absurd (omega arith)
below_each k x [] (y ∷ ys) h i =
    let p = both (is_lt (slice_cmp nat_cmp k y.0)) (below_all (slice_cmp nat_cmp) k ys) h in
    elim (head_or_tail x y ys i) [ inl e ↦ subst (λ (z : Pair). is_lt (slice_cmp nat_cmp k z.0) ≡ true) e p.0 | inr j ↦ below_each k x [] ys p.1 j ]
below_each k x (y ∷ xs) ys h i = below_each k x xs ys (both (is_lt (slice_cmp nat_cmp k y.0)) (below_all (slice_cmp nat_cmp) k (xs ++ ys)) h).1 i

-- no pair stands on both sides of a place
apart_pairs : (x : Pair) (xs ys : List Pair) → is_sorted (slice_cmp nat_cmp) (xs ++ ys) ≡ true → Contains xs x → Contains ys x → ⊥
apart_pairs x [] ys h i j = absurd (omega arith)
apart_pairs x (y ∷ xs) ys h i j =
    let p = both (below_all (slice_cmp nat_cmp) y.0 (xs ++ ys)) (is_sorted (slice_cmp nat_cmp) (xs ++ ys)) h in
    elim (head_or_tail x y xs i) [ inl e ↦ not_below_itself x.0 (subst (λ (z : Pair). is_lt (slice_cmp nat_cmp z.0 x.0) ≡ true) e (below_each y.0 x xs ys p.0 j)) | inr k ↦ apart_pairs x xs ys p.1 k j ]

in_later : (e x : Pair) (es : List Pair) → Contains es x → Contains (e ∷ es) x
in_later e x es i = Contains-append_right (e ∷ []) es x i

-- ---- the nodes of a part

-- the number of nodes
abbrev mutual
  pub size : Part → ℕ
  size Nothing = 0
  size (Sub m) = suc (size_under m)

  pub size_under : Node → ℕ
  size_under (Last p) = size p
  size_under (More p e r) = size p + size_under r

abbrev pub HasPair : Node → Type 0
HasPair m = (e : Pair) × Contains (pairs_under m) e

-- no block stands for a record
pub blocks_under-More : (digest : List ℕ → List ℕ) (p : Part) (e : Pair) (r : Node) → blocks_under digest no_record (More p e r) ≡ blocks_in digest no_record p ++ blocks_under digest no_record r
blocks_under-More digest p e r = ap (λ (bs : List (List ℕ)). bs ++ blocks_under digest no_record r) (append-nil (blocks_in digest no_record p))

module _ (digest : List ℕ → List ℕ) (Kept : Shape → Type 0) (clashfree : (s t : Shape) → Kept s → Kept t → shape_cid digest s ≡ shape_cid digest t → s ≡ t) where
  abbrev IsKept : Node → Type 0
  IsKept m = Kept (shape digest m)

  -- the node of a block, among fewer than so many nodes, over some of these pairs
  record Found (block : List ℕ) (count : ℕ) (es : List Pair) : Type 0 where
    node : Node
    bytes : node_bytes digest node ≡ block
    kept : EachNode IsKept (Sub node)
    small : size_under node < count
    has : HasPair node
    within : (x : Pair) → Contains (pairs_under node) x → Contains es x

  wider : (block : List ℕ) (n m : ℕ) (es fs : List Pair) → n ≤ m → ((x : Pair) → Contains es x → Contains fs x) → Found block n es → Found block m fs
  wider block n m es fs le more f =
      record { node = f.node; bytes = f.bytes; kept = f.kept; small = omega (arith, f.small); has = f.has; within = λ x i. more x (f.within x i) }

  mutual
    found-part : (p : Part) → EachNode IsKept p → EachNode HasPair p → (block : List ℕ) → Contains (blocks_in digest no_record p) block → Found block (size p) (pairs_in p)
    found-part Nothing kept has block i = absurd (omega arith)
    found-part (Sub m) kept has block i =
        elim (head_or_tail block (node_bytes digest m) (blocks_under digest no_record m) i) [
          | inl e ↦ record { node = m; bytes = e; kept = kept; small = omega arith; has = has.0; within = λ x j. j }
          | inr j ↦ wider block (size_under m) (suc (size_under m)) (pairs_under m) (pairs_under m) (omega arith) (λ x k. k) (found-under m kept.1 has.1 block j)
        ]

    found-under : (m : Node) → EachUnder IsKept m → EachUnder HasPair m → (block : List ℕ) → Contains (blocks_under digest no_record m) block → Found block (size_under m) (pairs_under m)
    found-under (Last p) kept has block i = found-part p kept has block i
    found-under (More p e r) kept has block i =
        let j = subst (λ (bs : List (List ℕ)). Contains bs block) (blocks_under-More digest p e r) i in
        elim (Contains-append_cases (blocks_in digest no_record p) (blocks_under digest no_record r) block j) [
          | inl k ↦ wider block (size p) (size p + size_under r) (pairs_in p) (pairs_in p ++ e ∷ pairs_under r) (omega arith)
              (λ x l. Contains-append_left (pairs_in p) (e ∷ pairs_under r) x l) (found-part p kept.0 has.0 block k)
          | inr k ↦ wider block (size_under r) (size p + size_under r) (pairs_under r) (pairs_in p ++ e ∷ pairs_under r) (omega arith)
              (λ x l. Contains-append_right (pairs_in p) (e ∷ pairs_under r) x (in_later e x (pairs_under r) l)) (found-under r kept.1 has.1 block k)
        ]

  -- two kept nodes with one CID are one node
  same : (m n : Node) → EachNode IsKept (Sub m) → EachNode IsKept (Sub n) → cid digest (node_bytes digest m) ≡ cid digest (node_bytes digest n) → m ≡ n
  same m n h k e = let f : Sub m ≡ Sub n = same-part digest Kept clashfree (Sub m) (Sub n) h k (cc) in cc

  -- a node is none of those below it
  not_below : (m : Node) → EachNode IsKept (Sub m) → (block : List ℕ) → Found block (size_under m) (pairs_under m) → cid digest (node_bytes digest m) ≡ cid digest block → ⊥
  not_below m kept block f e =
      let q : m ≡ f.node = same m f.node kept f.kept (e ∙ ap (cid digest) (sym f.bytes)) in
      let s = ap size_under q in
      omega (arith, f.small)

  -- nodes over pairs that stand on two sides of a place differ
  not_beside : (es fs : List Pair) → is_sorted (slice_cmp nat_cmp) (es ++ fs) ≡ true → (n m : ℕ) (a b : List ℕ) → Found a n es → Found b m fs → cid digest a ≡ cid digest b → ⊥
  not_beside es fs sorted n m a b f g e =
      let q : f.node ≡ g.node = same f.node g.node f.kept g.kept (ap (cid digest) f.bytes ∙ e ∙ ap (cid digest) (sym g.bytes)) in
      let x = f.has.0 in
      apart_pairs x es fs sorted (f.within x f.has.1) (g.within x (subst (λ (k : Node). Contains (pairs_under k) x) q f.has.1))

  mutual
    once-part : (p : Part) → EachNode IsKept p → EachNode HasPair p → is_sorted (slice_cmp nat_cmp) (pairs_in p) ≡ true → Once (cid digest) (blocks_in digest no_record p)
    once-part Nothing kept has sorted = tt
    once-part (Sub m) kept has sorted = (λ c i e. not_below m kept c (found-under m kept.1 has.1 c i) e, once-under m kept.1 has.1 sorted)

    once-under : (m : Node) → EachUnder IsKept m → EachUnder HasPair m → is_sorted (slice_cmp nat_cmp) (pairs_under m) ≡ true → Once (cid digest) (blocks_under digest no_record m)
    once-under (Last p) kept has sorted = once-part p kept has sorted
    once-under (More p e r) kept has sorted =
        let parts = is_sorted-append (pairs_in p) (e ∷ pairs_under r) sorted in
        let rest = both (below_all (slice_cmp nat_cmp) e.0 (pairs_under r)) (is_sorted (slice_cmp nat_cmp) (pairs_under r)) parts.1 in
        subst (Once (cid digest)) (sym (blocks_under-More digest p e r))
        (Once-append (cid digest) (blocks_in digest no_record p) (blocks_under digest no_record r)
        (once-part p kept.0 has.0 parts.0) (once-under r kept.1 has.1 rest.1)
        (λ a b i j. not_beside (pairs_in p) (e ∷ pairs_under r) sorted (size p) (size_under r) a b (found-part p kept.0 has.0 a i)
        (wider b (size_under r) (size_under r) (pairs_under r) (e ∷ pairs_under r) (omega arith) (λ x k. in_later e x (pairs_under r) k) (found-under r kept.1 has.1 b j))))

-- ---- the law

has_pair : (of : List ℕ → ℕ) (n : ℕ) (e : Pair) (es : List Pair) → AllByRecursion (IsLower of (suc n)) (e ∷ es) → HasPair (tree of n (e ∷ es))
has_pair of n e es low = (e, subst (λ (fs : List Pair). Contains fs e) (sym (pairs-tree of n (e ∷ es) low)) (0, omega arith, refl))

-- where no two nodes of the tree of these pairs clash, no node's CID stands twice among them
pub once-nodes : (digest : List ℕ → List ℕ) (bits : ℕ) → ((bytes : List ℕ) → length (digest bytes) ≡ 32) → (es : List Pair) → ArePairs es → IsClashFree digest (nodes digest bits es)
    → Once (cid digest) (nodes digest bits es)
once-nodes digest bits fits [] are free = (λ c i. absurd (omega (arith, i.1)), tt)
once-nodes digest bits fits (e ∷ es) are free =
    let of = layer digest bits in
    let n = top_layer of (e ∷ es) in
    let low = lower-from_top of n (e ∷ es) (omega arith) in
    let bs = nodes digest bits (e ∷ es) in
    once-part digest (Stands (Contains bs)) (free_shapes digest (Contains bs) free) (Sub (top of (e ∷ es)))
    (stands-top digest bits fits (e ∷ es) are bs (λ b i. i))
    (has_pair of n e es low, each-under of HasPair (has_pair of) n (e ∷ es) low)
    (subst (λ (fs : List Pair). is_sorted (slice_cmp nat_cmp) fs ≡ true) (sym (pairs-top of (e ∷ es))) are.sorted)

-- where no two nodes of the tree of these pairs clash, each of them stands once among them
pub firsts-nodes : (digest : List ℕ → List ℕ) (bits : ℕ) → ((bytes : List ℕ) → length (digest bytes) ≡ 32) → (es : List Pair) → ArePairs es → IsClashFree digest (nodes digest bits es)
    → firsts (cid digest) (nodes digest bits es) ≡ nodes digest bits es
firsts-nodes digest bits fits es are free = firsts-Once (cid digest) (nodes digest bits es) (once-nodes digest bits fits es are free)

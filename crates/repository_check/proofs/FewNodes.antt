-- A file has a section for each node of its tree, so a walk over the tree reads no more nodes than the file has sections.
use Rattle.std.proofs.Common.{Vec, ◌≡◌, ℕ, zero, suc, ◌+◌, ◌-◌, ◌^◌, ◌≤◌, Bool, true, false, not, cond, List, [], ◌∷◌, length, Option, Result, Ok, Err, refl, ap, ◌∙◌, arith}
use Rattle.std.specs.Prelude.{Contains, IfOk, filter, take, option_map}
use Rattle.std.specs.declared.option.Option.TheVariants.{Some, None}
use Rattle.std.specs.Cmp.Lexicographic.{slice_cmp}
use Rattle.std.specs.Ordering.{nat_cmp, is_lt}
use Rattle.std.specs.Str.{bytes_eq}
use Rattle.std.proofs.lemmas.List.{length-append, length-map}
use Rattle.std.proofs.lemmas.Slice.Eq.{bytes_eq-Decides}
use Rattle.spec.specs.Cid.{IsDigest, cid}
use Rattle.spec.specs.Layer.{layer}
use Rattle.spec.specs.Tree.{Pair, Node, Part, Last, More, Nothing, Sub, EachNode, EachUnder, top}
use Rattle.spec.specs.NodeFormat.{shape, shape_bytes, shape_cid}
use Rattle.spec.specs.Blocks.{listed, nodes}
use Rattle.spec.specs.CarReading.{Section, block_with, section_with}
use Rattle.spec.specs.Exports.{IsTree, given_by}
use Rattle.spec.proofs.RootLaws.{stands-top}
use Rattle.spec.proofs.SameTree.{Stands, free_shapes}
use Rattle.spec.proofs.VerifyLaws.{each-part_is}
use Rattle.edit_laws.specs.Changes.{marked, one_if_equal}
use Rattle.edit_laws.specs.Order.{order}
use Rattle.edit_laws.specs.Pairs.{Each}
use Rattle.edit_laws.specs.Trace.{size, size_under, weight, weight_under}
use Rattle.edit_laws.specs.Walk.{Ranged, ranged_in, ranged_under, meets, last_key}
use Rattle.edit_laws.proofs.NodesOnce.{nodes-once}
use Rattle.edit_laws.proofs.Orders.{order-same}
use Rattle.edit_laws.proofs.OverSource.{free-source}
use Rattle.edit_laws.proofs.RecordMaps.{ascending-sorted}
use Rattle.edit_laws.proofs.WalkPairs.{IsFrom, all-from}
use Rattle.lookups.specs.Trees.{HasTree}
use Rattle.lookups.specs.Walks.{nodes_walked, pairs_given}
use Rattle.repository_check.specs.Parts.{AreListed}
use Rattle.repository_check.specs.Views.{pairs_of}

-- ---- how often the sections name a node

module _ (digest : List ℕ → List ℕ) where
  abbrev mark : Node → List ℕ
  mark m = shape_cid digest (shape digest m)

  abbrev hits : List Section → Node → ℕ
  hits [] m = 0
  hits (s ∷ ss) m = marked mark s.cid m + hits ss m

  mutual
    none-in : (p : Part) → weight (hits []) p ≡ 0
    none-in Nothing = refl
    none-in (Sub m) = let i = none-under m in omega arith

    none-under : (m : Node) → weight_under (hits []) m ≡ 0
    none-under (Last p) = none-in p
    none-under (More p e r) = let i = none-in p in let j = none-under r in omega arith

  mutual
    sum-in : (s : Section) (ss : List Section) (p : Part)
        → weight (hits (s ∷ ss)) p ≡ weight (marked mark s.cid) p + weight (hits ss) p
    sum-in s ss Nothing = omega arith
    sum-in s ss (Sub m) = let i = sum-under s ss m in omega arith

    sum-under : (s : Section) (ss : List Section) (m : Node)
        → weight_under (hits (s ∷ ss)) m ≡ weight_under (marked mark s.cid) m + weight_under (hits ss) m
    sum-under s ss (Last p) = sum-in s ss p
    sum-under s ss (More p e r) = let i = sum-in s ss p in let j = sum-under s ss r in omega arith

  -- each section names one node at most
  hits-most : (p : Part) → ((c : List ℕ) → weight (marked mark c) p ≤ 1) → (ss : List Section)
      → weight (hits ss) p ≤ length ss
  hits-most p once [] = let i = none-in p in omega arith
  hits-most p once (s ∷ ss) =
      let a = once s.cid in
      let i = hits-most p once ss in
      let e = sum-in s ss p in
      omega arith

  mutual
    size-in : (ss : List Section) (p : Part) → EachNode (λ m. 1 ≤ hits ss m) p → size p ≤ weight (hits ss) p
    size-in ss Nothing h = omega arith
    size-in ss (Sub m) h = let a = h.0 in let i = size-of ss m h.1 in omega arith

    size-of : (ss : List Section) (m : Node) → EachUnder (λ m. 1 ≤ hits ss m) m → size_under m ≤ weight_under (hits ss) m
    size-of ss (Last p) h = size-in ss p h
    size-of ss (More p e r) h = let i = size-in ss p h.0 in let j = size-of ss r h.1 in omega arith

  -- a section names a node that is found
  hit-at : (s : Section) (ss : List Section) (m : Node) (b : List ℕ) (t : Bool) → bytes_eq s.cid (mark m) ≡ t
      → option_map (λ s. s.block) (cond t (Some s) (section_with (mark m) ss)) ≡ Some b
      → (block_with (mark m) ss ≡ Some b → 1 ≤ hits ss m) → 1 ≤ hits (s ∷ ss) m
  hit-at s ss m b true e h rest =
      let same : s.cid ≡ mark m = (bytes_eq-Decides s.cid (mark m)).0 e in
      let one : marked mark s.cid m ≡ 1 = ap one_if_equal (ap (order (mark m)) same ∙ order-same (mark m)) in
      omega arith
  hit-at s ss m b false e h rest = let i = rest h in omega arith

  hit : (ss : List Section) (m : Node) (b : List ℕ) → block_with (mark m) ss ≡ Some b → 1 ≤ hits ss m
  hit [] m b h = absurd cc
  hit (s ∷ ss) m b h = hit-at s ss m b (bytes_eq s.cid (mark m)) refl h (hit ss m b)

-- ---- the nodes of a walk are some of the tree's

mutual
  ranged-size : (a b : Option (List ℕ)) (p : Part) → length (ranged_in a b p) ≡ size p
  ranged-size a b Nothing = refl
  ranged-size a b (Sub m) = ap suc (ranged-size_under a b m)

  ranged-size_under : (a b : Option (List ℕ)) (m : Node) → length (ranged_under a b m) ≡ size_under m
  ranged-size_under a b (Last p) = ranged-size a b p
  ranged-size_under a b (More p e r) =
      let i = ranged-size a (Some e.0) p in
      let j = ranged-size_under (Some e.0) b r in
      let k = length-append (ranged_in a (Some e.0) p) (ranged_under (Some e.0) b r) in
      omega arith

first-most : (b : Bool) (x : Ranged) (ys zs : List Ranged) → length ys ≤ length zs → length (cond b (x ∷ ys) ys) ≤ suc (length zs)
first-most true x ys zs h = omega arith
first-most false x ys zs h = omega arith

filter-most : (f : Ranged → Bool) (xs : List Ranged) → length (filter f xs) ≤ length xs
filter-most f [] = omega arith
filter-most f (x ∷ xs) = first-most (f x) x (filter f xs) xs (filter-most f xs)

walked-most : (digest : List ℕ → List ℕ) (bits limit : ℕ) (from : List ℕ) (es : List Pair)
    → length (nodes_walked digest bits from limit es) ≤ size (Sub (top (layer digest bits) es))
walked-most digest bits zero from es = omega arith
walked-most digest bits (suc n) from es =
    let p = Sub (top (layer digest bits) es) in
    let last = last_key from (listed from (suc n) es) in
    let some = filter (meets from last) (ranged_in None None p) in
    let i = length-map some (λ (x : Ranged). x.node) in
    let j = filter-most (meets from last) (ranged_in None None p) in
    let k = ranged-size None None p in
    omega arith

-- ---- of a file's tree

module _ (digest : List ℕ → List ℕ) (bits : ℕ) (fits : IsDigest digest) (ss : List Section) (root : List ℕ) (es : List Pair)
    (is : IsTree digest bits ss root es) where
  found : EachNode (λ m. 1 ≤ hits digest ss m) (Sub (top (layer digest bits) es))
  found =
      each-part_is _ _
      (λ (m : Node) (s : Stands (Contains (nodes digest bits es)) (shape digest m)).
      hit digest ss m (shape_bytes (shape digest m)) (is.nodes (shape_bytes (shape digest m)) s.0))
      (Sub (top (layer digest bits) es)) (stands-top digest bits fits es is.pairs (nodes digest bits es) (λ b h. h))

  once : (c : List ℕ) → weight (marked (mark digest) c) (Sub (top (layer digest bits) es)) ≤ 1
  once c =
      let bs = nodes digest bits es in
      nodes-once digest (Stands (Contains bs)) (free_shapes digest (Contains bs) (free-source digest bits (given_by ss) es is.nodes))
      (layer digest bits) es (ascending-sorted es is.pairs.sorted) (stands-top digest bits fits es is.pairs bs (λ b h. h)) c

  pub few-walked : (from : List ℕ) (limit sections : ℕ) → length ss ≤ sections
      → length (nodes_walked digest bits from limit es) ≤ sections
  few-walked from limit sections h =
      let p = Sub (top (layer digest bits) es) in
      let i = walked-most digest bits limit from es in
      let j = size-in digest ss p found in
      let k = hits-most digest p once ss in
      omega arith

  pub has-tree : HasTree digest bits (λ c. option_map (λ (b : List ℕ). b) (given_by ss c)) root es
  has-tree = record {
    pairs = is.pairs;
    root_is = is.root_is;
    nodes = λ b h. ap (option_map (λ (b : List ℕ). b)) (is.nodes b h);
  }

-- ---- all pairs are listed from the empty key on

from-none : (key : List ℕ) → not (is_lt (slice_cmp nat_cmp key [])) ≡ true
from-none [] = refl
from-none (x ∷ xs) = refl

each-from : (es : List Pair) → Each (IsFrom []) es
each-from [] = tt
each-from (e ∷ es) = (from-none e.0, each-from es)

take-all : (n : ℕ) (es : List Pair) → length es ≤ n → take n es ≡ es
take-all zero [] h = refl
take-all zero (e ∷ es) h = absurd (omega arith)
take-all (suc n) [] h = refl
take-all (suc n) (e ∷ es) h = ap (λ t. e ∷ t) (take-all n es (omega arith))

pub all-listed : (limit : ℕ) (es : List Pair) → length es ≤ limit → listed [] limit es ≡ es
all-listed limit es h = ap (take limit) (all-from [] es (each-from es)) ∙ take-all limit es h

pub listed-are : {A E : Type 0} (digest : List ℕ → List ℕ) (bits limit : ℕ) (ss : List Section) (root : List ℕ)
    (r : Result (Vec (Vec ℕ A × List ℕ) A) E) → 2 ^ 64 - 1 ≤ limit
    → ((es : List Pair) → IsTree digest bits ss root es → IfOk r (λ pairs. pairs_given pairs.items ≡ listed [] limit es))
    → IfOk r (λ pairs. AreListed digest bits ss root (pairs_of pairs.items))
listed-are digest bits limit ss root (Ok pairs) much h =
    λ es is. let few = is.pairs.count in h es is ∙ all-listed limit es (omega arith)
listed-are digest bits limit ss root (Err e) much h = tt

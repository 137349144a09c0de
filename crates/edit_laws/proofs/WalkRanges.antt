-- What a node's open range of keys is: it holds the node's keys, and the path of a key is the nodes whose range holds it.
use Rattle.std.proofs.Common.{◌≡◌, ℕ, true, List, [], ◌∷◌, ◌++◌, map, Option, None, refl, sym, ap, ◌∙◌, subst, append-nil}
use Rattle.std.specs.Prelude.{filter}
use Rattle.std.specs.List.{AllByRecursion}
use Rattle.std.specs.declared.option.Option.TheVariants.{Some}
use Rattle.std.specs.declared.cmp.Ordering.TheVariants.{Less}
use Rattle.std.proofs.lemmas.List.{map-append}
use Rattle.spec.specs.Layer.{layer}
use Rattle.spec.specs.Tree.{Pair, Node, Part, Last, More, Nothing, Sub, top, pairs_in, pairs_under}
use Rattle.spec.specs.NodeFormat.{node_bytes}
use Rattle.spec.specs.Blocks.{blocks_in, blocks_under, no_record, is_from}
use Rattle.spec.proofs.Once.{blocks_under-More}
use Rattle.spec.proofs.TreeLaws.{pairs-top}
use Rattle.edit_laws.specs.Order.{order}
use Rattle.edit_laws.specs.Pairs.{Each, IsBefore, IsAfter, Ascending}
use Rattle.edit_laws.specs.Trace.{find_path}
use Rattle.edit_laws.specs.Walk.{go_down, Ranged, ranged_in, ranged_under, is_above, is_under, meets, nodes_meeting}
use Rattle.edit_laws.specs.Laws.Walks.{RangesAreNodes, IsInRange, RangesHoldKeys, PathIsRange}
use Rattle.edit_laws.proofs.EachPair.{halves, each-left, each-right, each-map}
use Rattle.edit_laws.proofs.LookupTheorems.{within-bound}
use Rattle.edit_laws.proofs.Orders.{turned}
use Rattle.edit_laws.proofs.RecordMaps.{ascending-sorted}
use Rattle.edit_laws.proofs.WalkPairs.{IsFrom, filtered-from, down-pairs, stack_pairs}
use Rattle.edit_laws.proofs.WalkReads.{above-order, under-order, not-below, IsLate, late-stack, down-reads}
use Rattle.edit_laws.proofs.Within.{IsWithin}

-- ---- each node of a tree has one range

mutual
  nodes-in : (digest : List ℕ → List ℕ) (a b : Option (List ℕ)) (p : Part)
      → map (λ (x : Ranged). node_bytes digest x.node) (ranged_in a b p) ≡ blocks_in digest no_record p
  nodes-in digest a b Nothing = refl
  nodes-in digest a b (Sub m) = ap (λ t. node_bytes digest m ∷ t) (nodes-under digest a b m)

  nodes-under : (digest : List ℕ → List ℕ) (a b : Option (List ℕ)) (m : Node)
      → map (λ (x : Ranged). node_bytes digest x.node) (ranged_under a b m) ≡ blocks_under digest no_record m
  nodes-under digest a b (Last p) = nodes-in digest a b p
  nodes-under digest a b (More p e r) =
      map-append (λ (x : Ranged). node_bytes digest x.node) (ranged_in a (Some e.0) p) (ranged_under (Some e.0) b r)
      ∙ ap (λ t. t ++ map (λ (x : Ranged). node_bytes digest x.node) (ranged_under (Some e.0) b r))
      (nodes-in digest a (Some e.0) p)
      ∙ ap (λ t. blocks_in digest no_record p ++ t) (nodes-under digest (Some e.0) b r)
      ∙ sym (blocks_under-More digest p e r)

pub ranges-are_nodes : RangesAreNodes
ranges-are_nodes digest bits es = nodes-in digest None None (Sub (top (layer digest bits) es))

-- ---- and its keys lie in it

abbrev IsBetween : Option (List ℕ) → Option (List ℕ) → Pair → Type 0
IsBetween a b e = (is_above a e.0 ≡ true) × (is_under b e.0 ≡ true)

all-append : (xs ys : List Ranged) → AllByRecursion IsInRange xs → AllByRecursion IsInRange ys
    → AllByRecursion IsInRange (xs ++ ys)
all-append [] ys h k = k
all-append (x ∷ xs) ys h k = (h.0, all-append xs ys h.1 k)

each-two : (P Q R : Pair → Type 0) (es : List Pair) → ((e : Pair) → P e → Q e → R e) → Each P es → Each Q es → Each R es
each-two P Q R [] f h k = tt
each-two P Q R (e ∷ es) f h k = (f e h.0 k.0, each-two P Q R es f h.1 k.1)

mutual
  keys-in : (a b : Option (List ℕ)) (p : Part) → Ascending (pairs_in p) → Each (IsBetween a b) (pairs_in p)
      → AllByRecursion IsInRange (ranged_in a b p)
  keys-in a b Nothing s h = tt
  keys-in a b (Sub m) s h = (h, keys-under a b m s h)

  keys-under : (a b : Option (List ℕ)) (m : Node) → Ascending (pairs_under m) → Each (IsBetween a b) (pairs_under m)
      → AllByRecursion IsInRange (ranged_under a b m)
  keys-under a b (Last p) s h = keys-in a b p s h
  keys-under a b (More p e r) s h =
      let parts = halves (pairs_in p) e (pairs_under r) s in
      let left = each-left (IsBetween a b) (pairs_in p) (e ∷ pairs_under r) h in
      let right = each-right (IsBetween a b) (pairs_in p) (e ∷ pairs_under r) h in
      all-append (ranged_in a (Some e.0) p) (ranged_under (Some e.0) b r)
      (keys-in a (Some e.0) p parts.front
      (each-two (IsBetween a b) (IsBefore e.0) (IsBetween a (Some e.0)) (pairs_in p)
      (λ f i k. (i.0, under-order e.0 f.0 Less k)) left parts.before))
      (keys-under (Some e.0) b r parts.back
      (each-two (IsBetween a b) (IsAfter e.0) (IsBetween (Some e.0) b) (pairs_under r)
      (λ f i k. (above-order e.0 f.0 Less (turned f.0 e.0 k), i.1)) right.1 parts.after))

all-between : (es : List Pair) → Each (IsBetween None None) es
all-between [] = tt
all-between (e ∷ es) = ((refl, refl), all-between es)

pub ranges-hold_keys : RangesHoldKeys
ranges-hold_keys layer es s =
    keys-in None None (Sub (top layer es)) (subst Ascending (sym (pairs-top layer es)) (ascending-sorted es s))
    (all-between (pairs_under (top layer es)))

-- ---- the path of a key

late-from : (key : List ℕ) (es : List Pair) → Each (IsFrom key) es → Each (IsLate key key) es
late-from key es h = each-map (IsFrom key) (IsLate key key) es
    (λ e f. above-order e.0 key (order e.0 key) refl ∙ not-below key e f) h

path-part : (n : ℕ) (key : List ℕ) (p : Part) → IsWithin n p → Ascending (pairs_in p)
    → find_path n key p ≡ nodes_meeting key key p
path-part n key p w a =
    let d = go_down n key p [] in
    let e = down-pairs n key p [] w a ∙ append-nil (filter (is_from key) (pairs_in p)) in
    let late = late-from key (stack_pairs d) (subst (Each (IsFrom key)) (sym e) (filtered-from key (pairs_in p))) in
    sym (append-nil (find_path n key p))
    ∙ ap (λ t. find_path n key p ++ t) (sym (late-stack key key d late))
    ∙ sym (down-reads key key (λ x k. above-order x key Less k) n None p [] w a refl refl)
    ∙ ap (λ xs. map (λ (x : Ranged). x.node) (filter (meets key key) xs)) (append-nil (ranged_in None None p))

pub path-is_range : PathIsRange
path-is_range layer n key es s l =
    path-part n key (Sub (top layer es)) (within-bound layer n es l)
    (subst Ascending (sym (pairs-top layer es)) (ascending-sorted es s))

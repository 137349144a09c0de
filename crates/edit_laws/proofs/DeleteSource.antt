-- What a delete reads over a source, beside the path: the pairs that meet at the key, and the chain that is pruned.
use Rattle.std.proofs.Common.{◌≡◌, ℕ, zero, suc, ◌<◌, ◌≤◌, Bool, true, false, cond, nat_eq, List, [], ◌∷◌, map, Option, None, refl, ap, ◌∙◌, arith}
use Rattle.std.specs.declared.cmp.Ordering.{Ordering}
use Rattle.std.specs.declared.cmp.Ordering.TheVariants.{Less, Equal, Greater}
use Rattle.spec.specs.Tree.{Pair, Node, Part, Last, More, Nothing, Sub, EachNode, EachUnder}
use Rattle.spec.specs.NodeFormat.{Shape, part_link, shape}
use Rattle.edit_laws.specs.Order.{order, if_equal}
use Rattle.edit_laws.specs.TreeEdit.{first, locate, further, Place, open_part, layer_of}
use Rattle.edit_laws.specs.Trace.{beside, lowest_at, merge_pairs, seam_pairs, trim_left, delete_left, prune_path}
use Rattle.edit_laws.specs.ShapeEdit.{trim_links, single_shape}
use Rattle.edit_laws.specs.PathEdit.{flat}
use Rattle.edit_laws.specs.Sources.{seam_from, pruned_from}
use Rattle.edit_laws.proofs.DeleteShapes.{within-row}
use Rattle.edit_laws.proofs.Enough.{merge_pairs-enough, prune_path-enough}
use Rattle.edit_laws.proofs.Traces.{single-seam}
use Rattle.edit_laws.proofs.TrimShapes.{links-trim}
use Rattle.edit_laws.proofs.SourceLaws.{IsShown, seam-holds, pruned-holds}
use Rattle.edit_laws.proofs.WalkPairs.{each-first_part}
use Rattle.edit_laws.proofs.Within.{IsWithin, AllWithin}
use Rattle.edit_laws.proofs.ShapeBridges as bridge

-- ---- what holds of each node below a node holds below the rest of it at a key

each-further : (P : Node → Type 0) (o : Ordering) (p : Part) (e : Pair) (r : Node) (q : Place)
    → EachUnder P (More p e r) → EachUnder P q.here → EachUnder P (further o p e r q).here
each-further P Less p e r q h i = i
each-further P Equal p e r q h i = h
each-further P Greater p e r q h i = h

each-locate : (P : Node → Type 0) (key : List ℕ) (m : Node) → EachUnder P m → EachUnder P (locate key m).here
each-locate P key (Last p) h = h
each-locate P key (More p e r) h = each-further P (order e.0 key) p e r (locate key r) h (each-locate P key r h.1)

each-open : (P : Node → Type 0) (g : Part) → EachNode P g → EachUnder P (open_part g)
each-open P Nothing h = tt
each-open P (Sub m) h = h.1

row-cases : (P : Node → Type 0) (n : ℕ) (h : Node) (r : ℕ × Node) (b : Bool) → EachUnder P h → EachUnder P r.1
    → EachUnder P (cond b (suc n, h) r).1
row-cases P n h r true k i = k
row-cases P n h r false k i = i

pub each-row : (P : Node → Type 0) (layer : List ℕ → ℕ) (key : List ℕ) (n : ℕ) (m : Node) → EachUnder P m
    → EachUnder P (lowest_at layer n key m).1
each-row P layer key zero m h = each-locate P key m h
each-row P layer key (suc n) m h =
    let k = (locate key m).here in
    let g = first k in
    let i = each-locate P key m h in
    row-cases P n k (lowest_at layer n key (open_part g)) (nat_eq (layer key) (suc n)) i
    (each-row P layer key n (open_part g) (each-open P g (each-first_part P k i)))

row-layer_cases : (n : ℕ) (h : Node) (r : ℕ × Node) (b : Bool) → r.0 ≤ n → (cond b (suc n, h) r).0 ≤ suc n
row-layer_cases n h r true l = omega arith
row-layer_cases n h r false l = omega arith

row-layer : (layer : List ℕ → ℕ) (key : List ℕ) (n : ℕ) (m : Node) → (lowest_at layer n key m).0 ≤ n
row-layer layer key zero m = omega arith
row-layer layer key (suc n) m =
    let k = (locate key m).here in
    row-layer_cases n k (lowest_at layer n key (open_part (first k))) (nat_eq (layer key) (suc n))
    (row-layer layer key n (open_part (first k)))

-- ---- lists

pub map-flat : {A B : Type 0} (f : A → B) (xs : List (A × A))
    → map f (flat xs) ≡ flat (map (λ (x : A × A). (f x.0, f x.1)) xs)
map-flat f [] = refl
map-flat f (x ∷ xs) = ap (λ t. f x.0 ∷ f x.1 ∷ t) (map-flat f xs)

module _ (digest : List ℕ → List ℕ) (shows : List ℕ → Option Shape) where
  -- ---- the pairs that meet

  seam-none : (n : ℕ) → seam_from shows n None None ≡ []
  seam-none zero = refl
  seam-none (suc n) = refl

  seam-choice : (n k : ℕ) (o : Ordering) (p q : Part) → k ≤ n → IsWithin k p → EachNode (IsShown digest shows) p
      → EachNode (IsShown digest shows) q
      → let x : Option (List ℕ) × Option (List ℕ) = if_equal o (part_link digest p, part_link digest q) (None, None) in
      seam_from shows n x.0 x.1 ≡ map (bridge.two_shapes digest) (if_equal o (merge_pairs k p q) [])
  seam-choice n k Less p q l w h g = seam-none n
  seam-choice n k Equal p q l w h g = seam-holds digest shows n p q h g
      ∙ ap (map (bridge.two_shapes digest)) (merge_pairs-enough k n p q l w)
  seam-choice n k Greater p q l w h g = seam-none n

  seam-beside : (n k : ℕ) (key : List ℕ) (h : Node) → k ≤ n → AllWithin k h → EachUnder (IsShown digest shows) h
      → let x : Option (List ℕ) × Option (List ℕ) =
      beside key h (λ a b. (part_link digest a, part_link digest b)) (None, None) in
      seam_from shows n x.0 x.1 ≡ map (bridge.two_shapes digest) (beside key h (merge_pairs k) [])
  seam-beside n k key (Last g) l w h = seam-none n
  seam-beside n k key (More g e r) l w h =
      seam-choice n k (order e.0 key) g (first r) l w.0 h.0 (each-first_part (IsShown digest shows) r h.1)

  pub seam-row : (layer : List ℕ → ℕ) (key : List ℕ) (t n : ℕ) (m : Node) → t ≤ n → AllWithin t m
      → EachUnder (IsShown digest shows) m
      → let r = lowest_at layer t key m in
      let x : Option (List ℕ) × Option (List ℕ) =
      beside key r.1 (λ a b. (part_link digest a, part_link digest b)) (None, None) in
      seam_from shows n x.0 x.1 ≡ map (bridge.two_shapes digest) (seam_pairs layer t key m)
  seam-row layer key t n m l w h =
      let r = lowest_at layer t key m in
      let d = row-layer layer key t m in
      seam-beside n r.0 key r.1 (omega arith) (within-row digest layer key t m w)
      (each-row (IsShown digest shows) layer key t m h)

  -- ---- the chain that is pruned

  pub left-layer : (n : ℕ) (p q : Part) → (trim_left n p q).0 ≤ n
  left-layer zero p q = omega arith
  left-layer (suc n) Nothing q = omega arith
  left-layer (suc n) (Sub m) Nothing = omega arith
  left-layer (suc n) (Sub (Last p)) (Sub (Last q)) = let i = left-layer n p q in omega arith
  left-layer (suc n) (Sub (Last p)) (Sub (More q e r)) = omega arith
  left-layer (suc n) (Sub (More p e r)) (Sub k) = omega arith

  left-within : (n : ℕ) (p q : Part) → IsWithin n p → IsWithin n q
      → IsWithin (suc (trim_left n p q).0) (trim_left n p q).1
  left-within zero p q w v = tt
  left-within (suc n) Nothing q w v = v
  left-within (suc n) (Sub m) Nothing w v = w
  left-within (suc n) (Sub (Last p)) (Sub (Last q)) w v = left-within n p q w v
  left-within (suc n) (Sub (Last p)) (Sub (More q e r)) w v = tt
  left-within (suc n) (Sub (More p e r)) (Sub k) w v = tt

  pub left-shown : (P : Node → Type 0) (n : ℕ) (p q : Part) → EachNode P p → EachNode P q → EachNode P (trim_left n p q).1
  left-shown P zero p q h k = tt
  left-shown P (suc n) Nothing q h k = k
  left-shown P (suc n) (Sub m) Nothing h k = h
  left-shown P (suc n) (Sub (Last p)) (Sub (Last q)) h k = left-shown P n p q h.1 k.1
  left-shown P (suc n) (Sub (Last p)) (Sub (More q e r)) h k = tt
  left-shown P (suc n) (Sub (More p e r)) (Sub j) h k = tt

  pruned-none : (n : ℕ) → pruned_from shows n None ≡ []
  pruned-none zero = refl
  pruned-none (suc n) = refl

  pruned-left : (n t : ℕ) (p q : Part) → t < n → IsWithin t p → IsWithin t q → EachNode (IsShown digest shows) p
      → EachNode (IsShown digest shows) q
      → let left = trim_left t p q in
      pruned_from shows n (trim_links (part_link digest p) (part_link digest q)
      (map (bridge.two_shapes digest) (merge_pairs t p q))) ≡ map (shape digest) (prune_path left.0 left.1)
  pruned-left zero t p q l w v h k = absurd (omega arith)
  pruned-left (suc n) t p q l w v h k =
      let left = trim_left t p q in
      let d = left-layer t p q in
      ap (pruned_from shows (suc n)) (links-trim digest t p q w v)
      ∙ pruned-holds digest shows n left.1 (left-shown (IsShown digest shows) t p q h k)
      ∙ ap (map (shape digest)) (prune_path-enough left.0 n left.1 (omega arith) (left-within t p q w v))

  single-pruned : (n : ℕ) (layer : List ℕ → ℕ) (key : List ℕ) (p : Part) (e : Pair) (q : Part) (o : Ordering)
      → order e.0 key ≡ o
      → let t = layer e.0 in t < n → AllWithin t (More p e (Last q))
      → EachUnder (IsShown digest shows) (More p e (Last q))
      → let seam = map (bridge.two_shapes digest) (seam_pairs layer t key (More p e (Last q))) in
      let left : ℕ × Part = if_equal o (trim_left t p q) (0, Nothing) in
      pruned_from shows n (if_equal o (trim_links (part_link digest p) (part_link digest q) seam) None)
      ≡ map (shape digest) (prune_path left.0 left.1)
  single-pruned n layer key p e q Less h l w s = pruned-none n
  single-pruned n layer key p e q Equal h l w s =
      ap (λ x. pruned_from shows n
      (trim_links (part_link digest p) (part_link digest q) (map (bridge.two_shapes digest) x)))
      (single-seam layer key p e q h)
      ∙ pruned-left n (layer e.0) p q l w.0 w.1 s.0 s.1
  single-pruned n layer key p e q Greater h l w s = pruned-none n

  pub pruned-top : (n : ℕ) (layer : List ℕ → ℕ) (key : List ℕ) (m : Node) → layer_of layer m < n
      → AllWithin (layer_of layer m) m → EachUnder (IsShown digest shows) m
      → let seam = map (bridge.two_shapes digest) (seam_pairs layer (layer_of layer m) key m) in
      let left = delete_left layer key m in
      pruned_from shows n (single_shape key (shape digest m) (λ l k. trim_links l k seam) None)
      ≡ map (shape digest) (prune_path left.0 left.1)
  pruned-top n layer key (Last p) l w s = pruned-none n
  pruned-top n layer key (More p e (Last q)) l w s = single-pruned n layer key p e q (order e.0 key) refl l w s
  pruned-top n layer key (More p e (More q f r)) l w s = pruned-none n

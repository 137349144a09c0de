-- A batch makes few nodes: what is open is made once, and a change opens no more layers than there are.
use Rattle.std.proofs.Common.{◌≡◌, ℕ, zero, suc, ◌+◌, ◌-◌, ◌*◌, ◌<◌, ◌≤◌, max, List, [], ◌∷◌, ◌++◌, length, ap, ◌∙◌, arith, length-append, Option}
use Rattle.std.specs.declared.option.Option.TheVariants.{Some, None}
use Rattle.spec.specs.Tree.{Pair, Node, Part, Last, More, Nothing, Sub, top, top_layer}
use Rattle.edit_laws.specs.TreeEdit.{onto, layer_of}
use Rattle.edit_laws.specs.Trace.{last_part}
use Rattle.edit_laws.proofs.Tops.{layer_of-top}
use Rattle.edit_laws.proofs.Within.{IsWithin, AllWithin, within-tree}
use Rattle.batch_laws.specs.Batch.{Change, if_put, before, at_key, after, puts, entry}
use Rattle.batch_laws.specs.Edge.{Edge, Clear, Waiting, Opened, edge_of, closed, rows_in, next_of, with_pair, with_part, with_node, with_subtree}
use Rattle.batch_laws.specs.Walking.{depth_of, with_pairs, walk_part, walk_node, walk_top}
use Rattle.batch_laws.specs.Trace.{pair_made, part_made, node_made, subtree_made, top_made, pairs_made, walk_made, walk_under_made, batch_made, closed_made}
use Rattle.batch_laws.specs.Counts.{sum_over}
use Rattle.batch_laws.specs.Laws.Reads.{BatchMakesFew}
use Rattle.batch_laws.proofs.Sums.{at_sum, sum-split, sum-same, length-three}
use Rattle.batch_laws.proofs.Quiet.{Quiet, open_count, quiet-clear, quiet-more, open-quiet, quiet-pair, open-pair, closed-count, made-pair, open-edge_of, open-next, subtree-unmade, open-subtree}

-- ---- a subtree, of k layers: one more node a layer

abbrev PartMakes : ℕ → Part → Edge → Type 0
PartMakes k p s = length (part_made p s) + open_count (with_part p s) ≤ open_count s + k

node-makes : (k : ℕ) (m : Node) (rows : List (Part × Pair)) (s : Edge) → AllWithin k m
    → ((p : Part) → IsWithin k p → PartMakes k p s)
    → length (node_made m s) + open_count (with_node m rows s) ≤ open_count s + suc k
node-makes k (Last p) rows s w ih = let i = ih p w in omega arith
node-makes k (More p e r) rows s w ih =
    let i = ih p w.0 in
    let c = closed-count (with_part p s) in
    let a = length-append (part_made p s) (closed_made (with_part p s)) in
    let o = open-edge_of (last_part r) in
    omega arith

part-makes : (k : ℕ) (p : Part) (s : Edge) → IsWithin k p → PartMakes k p s
part-makes k Nothing s w = omega arith
part-makes zero (Sub m) s w = absurd w
part-makes (suc k) (Sub m) Clear w = omega arith
part-makes (suc k) (Sub m) (Waiting b) w =
    let s = edge_of (last_part b) in
    let i = node-makes k m (rows_in b) s w (λ p v. part-makes k p s v) in
    let o = open-edge_of (last_part b) in
    omega arith
part-makes (suc k) (Sub m) (Opened rows s) w =
    let i = node-makes k m rows s w (λ p v. part-makes k p s v) in omega arith

subtree-makes : (d k : ℕ) (m : Node) (s : Edge) → IsWithin k (Sub m)
    → length (subtree_made d m s) + open_count (with_subtree d m s) ≤ max (open_count s) d + k
subtree-makes zero k m s w = let i = part-makes k (Sub m) s w in omega arith
subtree-makes (suc d) k m s w = let i = subtree-makes d k m (next_of s) w in let o = open-next s in omega arith

-- and the layers above it are open then
subtree-opens : (d : ℕ) (m : Node) (s : Edge) → d ≤ open_count (with_subtree d m s)
subtree-opens zero m s = omega arith
subtree-opens (suc d) m s = let i = subtree-opens d m (next_of s) in omega arith

top-makes : (s : Edge) → length (top_made s) ≤ max (open_count s) 1
top-makes Clear = omega arith
top-makes (Waiting m) = omega arith
top-makes (Opened [] s) = let i = top-makes s in omega arith
top-makes (Opened (x ∷ rows) s) =
    let i = closed-count s in
    let a = length-append (closed_made s) (onto (x ∷ rows) (Last (closed s)) ∷ []) in
    omega arith

module _ (layer : List ℕ → ℕ) (n : ℕ) where
  -- what a change may make below a depth
  abbrev cost : ℕ → Option (List ℕ) → ℕ
  cost d v = 2 * n - d

  abbrev most : ℕ → List Change → ℕ
  most d cs = sum_over (cost d) cs

  most-less : (d : ℕ) (cs : List Change) → most (suc d) cs ≤ most d cs
  most-less d [] = omega arith
  most-less d (c ∷ cs) = let i = most-less d cs in omega arith

  most-more : (d : ℕ) (c : Change) (cs : List Change) → d < n → suc (most (suc d) (c ∷ cs)) ≤ most d (c ∷ cs)
  most-more d c cs l = let i = most-less d cs in omega arith

  -- from where nothing is in the gap, of k layers at depth d, and from where something may be there
  abbrev PartFew : ℕ → Type 0
  PartFew k = (d : ℕ) (p : Part) (cs : List Change) (s : Edge) → d + k ≡ n → IsWithin k p → Quiet d s
      → length (walk_made layer n d p cs s) + max (open_count (walk_part layer n d p cs s)) d ≤ d + most d cs

  abbrev OpenPart : ℕ → Type 0
  OpenPart k = (d : ℕ) (p : Part) (cs : List Change) (s : Edge) → d + k ≡ n → IsWithin k p
      → length (walk_made layer n d p cs s) + max (open_count (walk_part layer n d p cs s)) d
      ≤ max (open_count s) d + (k + most d cs)

  abbrev NodeFew : ℕ → Node → List Change → Edge → Type 0
  NodeFew d m cs s = length (walk_under_made layer n d m cs s) + max (open_count (walk_node layer n d m cs s)) (suc d)
      ≤ suc d + most (suc d) cs

  abbrev OpenNode : ℕ → ℕ → Node → List Change → Edge → Type 0
  OpenNode k d m cs s = length (walk_under_made layer n d m cs s)
      + max (open_count (walk_node layer n d m cs s)) (suc d)
      ≤ max (open_count s) (suc d) + (k + most (suc d) cs)

  -- ---- pairs in a gap

  put-few : (d : ℕ) (key : List ℕ) (v : Option (List ℕ)) (ps : List Pair) (s : Edge) (c : ℕ) → d ≤ n → 0 < n
      → ((t : Edge) → length (pairs_made (depth_of layer n) ps t)
      + max (open_count (with_pairs (depth_of layer n) ps t)) d ≤ max (open_count t) d + c)
      → length (pairs_made (depth_of layer n) (if_put key v ps) s)
      + max (open_count (with_pairs (depth_of layer n) (if_put key v ps) s)) d ≤ max (open_count s) d + (cost d v + c)
  put-few d key None ps s c l q ih = let i = ih s in omega arith
  put-few d key (Some v) ps s c l q ih =
      let j = depth_of layer n key in
      let t = with_pair j (key, v) s in
      let i = ih t in
      let m = made-pair j s in
      let o = open-pair j (key, v) s in
      let a = length-append (pair_made j s) (pairs_made (depth_of layer n) ps t) in
      omega arith

  puts-few : (d : ℕ) (cs : List Change) (s : Edge) → d ≤ n → 0 < n
      → length (pairs_made (depth_of layer n) (puts cs) s)
      + max (open_count (with_pairs (depth_of layer n) (puts cs) s)) d ≤ max (open_count s) d + most d cs
  puts-few d [] s l q = omega arith
  puts-few d (c ∷ cs) s l q = put-few d c.0 c.1 (puts cs) s (most d cs) l q (λ t. puts-few d cs t l q)

  -- ---- a row: a gap, what is left of a pair, and the rest

  abbrev row_made : ℕ → Part → List Change → List Pair → Node → List Change → Edge → List Node
  row_made d p bs ps r ds s =
      let s1 = walk_part layer n (suc d) p bs s in
      walk_made layer n (suc d) p bs s
      ++ (pairs_made (λ key. d) ps s1 ++ walk_under_made layer n d r ds (with_pairs (λ key. d) ps s1))

  abbrev row_edge : ℕ → Part → List Change → List Pair → Node → List Change → Edge → Edge
  row_edge d p bs ps r ds s =
      walk_node layer n d r ds (with_pairs (λ key. d) ps (walk_part layer n (suc d) p bs s))

  abbrev RowWithin : ℕ → Part → List Change → List Pair → Node → List Change → Edge → ℕ → Type 0
  RowWithin d p bs ps r ds s c = length (row_made d p bs ps r ds s) + max (open_count (row_edge d p bs ps r ds s)) (suc d)
      ≤ c

  -- a pair stays: what was open below it is made
  kept-few : (d : ℕ) (p : Part) (e : Pair) (r : Node) (bs ds : List Change) (s : Edge) (c : ℕ)
      → length (walk_made layer n (suc d) p bs s) + max (open_count (walk_part layer n (suc d) p bs s)) (suc d) ≤ c
      → ((t : Edge) → Quiet (suc d) t → NodeFew d r ds t) → RowWithin d p bs (e ∷ []) r ds s (c + most (suc d) ds)
  kept-few d p e r bs ds s c h rest =
      let s1 = walk_part layer n (suc d) p bs s in
      let s2 = with_pair d e s1 in
      let j = rest s2 (quiet-pair d e s1) in
      let m = made-pair d s1 in
      let b = length-append (pair_made d s1) [] in
      let a = length-three (walk_made layer n (suc d) p bs s) (pairs_made (λ key. d) (e ∷ []) s1)
      (walk_under_made layer n d r ds s2) in
      omega arith

  -- a pair goes: what comes after it meets what is open
  gone-few : (k d : ℕ) (p : Part) (r : Node) (bs ds : List Change) (s : Edge) (c : ℕ)
      → length (walk_made layer n (suc d) p bs s) + max (open_count (walk_part layer n (suc d) p bs s)) (suc d) ≤ c
      → ((t : Edge) → OpenNode k d r ds t) → RowWithin d p bs [] r ds s (c + (k + most (suc d) ds))
  gone-few k d p r bs ds s c h rest =
      let s1 = walk_part layer n (suc d) p bs s in
      let j = rest s1 in
      let a = length-append (walk_made layer n (suc d) p bs s) (walk_under_made layer n d r ds s1) in
      omega arith

  row-few : (k d : ℕ) (p : Part) (e : Pair) (r : Node) (bs ds : List Change) (o : Option (Option (List ℕ))) (s : Edge)
      (first all : ℕ) → suc d + k ≡ n
      → length (walk_made layer n (suc d) p bs s) + max (open_count (walk_part layer n (suc d) p bs s)) (suc d)
      ≤ first + most (suc d) bs
      → most (suc d) bs + (at_sum (cost (suc d)) o + most (suc d) ds) ≤ all
      → ((t : Edge) → Quiet (suc d) t → NodeFew d r ds t) → ((t : Edge) → OpenNode k d r ds t)
      → RowWithin d p bs (entry o e) r ds s (first + all)
  row-few k d p e r bs ds None s first all q h c rest open_rest =
      let i = kept-few d p e r bs ds s (first + most (suc d) bs) h rest in omega arith
  row-few k d p e r bs ds (Some None) s first all q h c rest open_rest =
      let i = gone-few k d p r bs ds s (first + most (suc d) bs) h open_rest in omega arith
  row-few k d p e r bs ds (Some (Some v)) s first all q h c rest open_rest =
      let i = kept-few d p (e.0, v) r bs ds s (first + most (suc d) bs) h rest in omega arith

  -- ---- a node

  mutual
    node-few : (k d : ℕ) (m : Node) (cs : List Change) (s : Edge) → PartFew k → OpenPart k → suc d + k ≡ n
        → AllWithin k m → Quiet (suc d) s → NodeFew d m cs s
    node-few k d (Last p) cs s ih open_ih q w h = ih (suc d) p cs s q w h
    node-few k d (More p e r) cs s ih open_ih q w h =
        let ds = after e.0 cs in
        row-few k d p e r (before e.0 cs) ds (at_key e.0 cs) s (suc d) (most (suc d) cs) q
        (ih (suc d) p (before e.0 cs) s q w.0 h) (sum-split (cost (suc d)) e.0 cs)
        (λ t u. node-few k d r ds t ih open_ih q w.1 u) (λ t. open-node k d r ds t ih open_ih q w.1)

    open-node : (k d : ℕ) (m : Node) (cs : List Change) (s : Edge) → PartFew k → OpenPart k → suc d + k ≡ n
        → AllWithin k m → OpenNode k d m cs s
    open-node k d (Last p) cs s ih open_ih q w = open_ih (suc d) p cs s q w
    open-node k d (More p e r) cs s ih open_ih q w =
        let ds = after e.0 cs in
        let i = open_ih (suc d) p (before e.0 cs) s q w.0 in
        let j = row-few k d p e r (before e.0 cs) ds (at_key e.0 cs) s (max (open_count s) (suc d) + k)
        (most (suc d) cs) q (omega arith) (sum-split (cost (suc d)) e.0 cs)
        (λ t u. node-few k d r ds t ih open_ih q w.1 u) (λ t. open-node k d r ds t ih open_ih q w.1) in
        omega arith

  -- ---- a gap

  module _ (some : 0 < n) where
    mutual
      part-few : (k : ℕ) → PartFew k
      part-few k d Nothing cs s q w h =
          let i = puts-few d cs s (omega arith) some in let o = open-quiet d s h in omega arith
      part-few zero d (Sub m) cs s q w h = absurd w
      part-few (suc k) d (Sub m) [] s q w h =
          let o = open-subtree d m s h in rw (subtree-unmade d m s h) (omega arith)
      part-few (suc k) d (Sub m) (c ∷ cs) s q w h =
          let i = node-few k d m (c ∷ cs) s (part-few k) (open-part k) (omega arith) w (quiet-more d s h) in
          let x = most-more d c cs (omega arith) in
          omega arith

      open-part : (k : ℕ) → OpenPart k
      open-part k d Nothing cs s q w = let i = puts-few d cs s (omega arith) some in omega arith
      open-part zero d (Sub m) cs s q w = absurd w
      open-part (suc k) d (Sub m) [] s q w =
          let i = subtree-makes d (suc k) m s w in let o = subtree-opens d m s in omega arith
      open-part (suc k) d (Sub m) (c ∷ cs) s q w =
          let i = open-node k d m (c ∷ cs) s (part-few k) (open-part k) (omega arith) w in
          let x = most-less d (c ∷ cs) in
          omega arith

  -- ---- the whole tree

  whole-makes : (k : ℕ) (m : Node) (cs : List Change) → layer_of layer m ≡ k → k < n → AllWithin k m
      → length (batch_made layer n cs m) ≤ (n - k) + length cs * (n + k)
  whole-makes k m cs q l w =
      let d = n - suc (layer_of layer m) in
      let some : 0 < n = omega arith in
      let i = node-few k d m cs Clear (part-few some k) (open-part some k) (omega arith) w (quiet-clear (suc d)) in
      let t = top-makes (walk_top layer n cs m) in
      let a = length-append (walk_under_made layer n d m cs Clear) (top_made (walk_top layer n cs m)) in
      let c : 2 * n - suc d ≡ n + k = omega arith in
      let e = sum-same (2 * n - suc d) cs ∙ ap (λ x. length cs * x) c in
      omega arith

pub batch-makes_few : BatchMakesFew
batch-makes_few layer n cs es l =
    let k = top_layer layer es in
    whole-makes layer n k (top layer es) cs (layer_of-top layer es) l (within-tree layer k es)

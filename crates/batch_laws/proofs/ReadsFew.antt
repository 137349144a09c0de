-- A batch reads no more than its changes one by one: what waits is opened only where a pair went, and that pays for it.
use Rattle.std.proofs.Common.{◌≡◌, ℕ, zero, suc, ◌+◌, ◌-◌, ◌*◌, ◌<◌, ◌≤◌, List, [], ◌∷◌, ◌++◌, length, refl, sym, ap, subst, arith, length-append, Option}
use Rattle.std.specs.declared.option.Option.TheVariants.{Some, None}
use Rattle.spec.specs.Tree.{Pair, Node, Part, Last, More, Nothing, Sub, top, top_layer}
use Rattle.edit_laws.specs.TreeEdit.{layer_of}
use Rattle.edit_laws.specs.Trace.{last_part}
use Rattle.edit_laws.proofs.Tops.{layer_of-top}
use Rattle.edit_laws.proofs.Within.{IsWithin, AllWithin, within-last, within-tree}
use Rattle.batch_laws.specs.Batch.{Change, before, at_key, after, puts, entry}
use Rattle.batch_laws.specs.Edge.{Edge, Clear, Waiting, Opened, edge_of, closed, rows_in, rows_of, next_of, with_pair, with_part, with_node, with_subtree}
use Rattle.batch_laws.specs.Walking.{depth_of, with_pairs, walk_part, walk_node, walk_top}
use Rattle.batch_laws.specs.Trace.{opened_gone, pair_gone, part_gone, node_gone, subtree_gone, pruned_gone, top_gone, top_left, pairs_gone, walk_gone, walk_under_gone, batch_gone, batch_read}
use Rattle.batch_laws.specs.Counts.{reads_of, most_reads}
use Rattle.batch_laws.specs.Laws.Reads.{BatchReadsFew}
use Rattle.batch_laws.proofs.Sums.{at_sum, sum-split, sum-all, length-three}
use Rattle.batch_laws.proofs.Quiet.{Calm, Quiet, top_reads, calm-quiet, calm-less, quiet-clear, quiet-more, quiet-pair, subtree-unread, calm-subtree, HasPair, top-unread, has-row, has-pair, has-subtree, top-under}

-- ---- how many nodes it takes to open what waits

abbrev mutual
  spine : Part → ℕ
  spine Nothing = 0
  spine (Sub m) = suc (spine_under m)

  spine_under : Node → ℕ
  spine_under (Last p) = spine p
  spine_under (More p e r) = spine_under r

abbrev waits : Edge → ℕ
waits Clear = 0
waits (Waiting m) = suc (spine_under m)
waits (Opened rows s) = waits s

spine-last : (m : Node) → spine (last_part m) ≡ spine_under m
spine-last (Last p) = refl
spine-last (More p e r) = spine-last r

waits-edge_of : (p : Part) → waits (edge_of p) ≡ spine p
waits-edge_of Nothing = refl
waits-edge_of (Sub m) = refl

mutual
  spine-within : (k : ℕ) (p : Part) → IsWithin k p → spine p ≤ k
  spine-within k Nothing h = omega arith
  spine-within zero (Sub m) h = absurd h
  spine-within (suc k) (Sub m) h = let i = spine-under_within k m h in omega arith

  spine-under_within : (k : ℕ) (m : Node) → AllWithin k m → spine_under m ≤ k
  spine-under_within k (Last p) h = spine-within k p h
  spine-under_within k (More p e r) h = spine-under_within k r h.1

waits-opened : (s : Edge) → length (opened_gone s) + waits (next_of s) ≡ waits s
waits-opened Clear = omega arith
waits-opened (Waiting m) = let a = waits-edge_of (last_part m) in let b = spine-last m in omega arith
waits-opened (Opened rows s) = omega arith

-- what the top reads is of what waits
mutual
  pruned-spine : (m : Node) → length (pruned_gone m) ≤ spine_under m
  pruned-spine (Last Nothing) = omega arith
  pruned-spine (Last (Sub m)) = let i = pruned-spine m in omega arith
  pruned-spine (More p e r) = omega arith

top-waits : (s : Edge) → top_reads s ≤ waits s
top-waits Clear = omega arith
top-waits (Waiting m) = let i = pruned-spine m in omega arith
top-waits (Opened rows s) = let i = top-waits s in let u = top-under rows s in omega arith

-- ---- a pair

pair-waits : (d : ℕ) (e : Pair) (s : Edge) → length (pair_gone d s) ≤ waits s
pair-waits zero e s = let o = waits-opened s in omega arith
pair-waits (suc d) e s =
    let o = waits-opened s in
    let i = pair-waits d e (next_of s) in
    let a = length-append (opened_gone s) (pair_gone d (next_of s)) in
    omega arith

waits-pair : (d : ℕ) (e : Pair) (s : Edge) → waits (with_pair d e s) ≡ 0
waits-pair zero e s = refl
waits-pair (suc d) e s = waits-pair d e (next_of s)

waits-quiet : (d : ℕ) (s : Edge) → Quiet d s → waits s ≡ 0
waits-quiet zero s h = ap waits h
waits-quiet (suc d) Clear h = refl
waits-quiet (suc d) (Waiting m) h = absurd h
waits-quiet (suc d) (Opened rows s) h = waits-quiet d s h

calm-unread : (d j : ℕ) (s : Edge) → suc j ≤ d → Calm d s → length (pair_gone j s) ≡ 0
calm-unread zero j s l h = absurd (omega arith)
calm-unread (suc d) zero Clear l h = refl
calm-unread (suc d) zero (Waiting m) l h = absurd h
calm-unread (suc d) zero (Opened rows s) l h = refl
calm-unread (suc d) (suc j) Clear l h = calm-unread d j Clear (omega arith) (calm-quiet d d Clear (quiet-clear d))
calm-unread (suc d) (suc j) (Waiting m) l h = absurd h
calm-unread (suc d) (suc j) (Opened rows s) l h = calm-unread d j s (omega arith) h

calm-few : (j d : ℕ) (s : Edge) → j ≤ d → Calm d s → Calm j s
calm-few zero d s l h = tt
calm-few (suc j) zero s l h = absurd (omega arith)
calm-few (suc j) (suc d) Clear l h = tt
calm-few (suc j) (suc d) (Waiting m) l h = h
calm-few (suc j) (suc d) (Opened rows s) l h = calm-few j d s (omega arith) h

-- ---- a subtree

abbrev PartFew : ℕ → Part → Edge → Type 0
PartFew k p s = length (part_gone p s) + top_reads (with_part p s) ≤ waits s + k

node-few : (k : ℕ) (m : Node) (rows : List (Part × Pair)) (s : Edge) → AllWithin k m
    → ((p : Part) → IsWithin k p → PartFew k p s)
    → length (node_gone m s) + top_reads (with_node m rows s) ≤ waits s + k
node-few k (Last p) rows s w ih = let i = ih p w in let u = top-under rows (with_part p s) in omega arith
node-few k (More p e r) rows s w ih =
    let i = ih p w.0 in
    let u = top-unread (with_node (More p e r) rows s) (has-row rows (closed (with_part p s), e) (rows_in r) (edge_of (last_part r))) in
    omega arith

part-few : (k : ℕ) (p : Part) (s : Edge) → IsWithin k p → PartFew k p s
part-few k Nothing s w = let t = top-waits s in omega arith
part-few zero (Sub m) s w = absurd w
part-few (suc k) (Sub m) Clear w =
    let t = top-waits (Waiting m) in let i = spine-under_within k m w in omega arith
part-few (suc k) (Sub m) (Waiting b) w =
    let s = edge_of (last_part b) in
    let i = node-few k m (rows_in b) s w (λ p v. part-few k p s v) in
    let o = waits-opened (Waiting b) in
    omega arith
part-few (suc k) (Sub m) (Opened rows s) w =
    let i = node-few k m rows s w (λ p v. part-few k p s v) in omega arith

subtree-few : (d k : ℕ) (m : Node) (s : Edge) → IsWithin k (Sub m)
    → length (subtree_gone d m s) + top_reads (with_subtree d m s) ≤ waits s + k
subtree-few zero k m s w = part-few k (Sub m) s w
subtree-few (suc d) k m s w =
    let o = waits-opened s in
    let i = subtree-few d k m (next_of s) w in
    let a = length-append (opened_gone s) (subtree_gone d m (next_of s)) in
    let u = top-under (rows_of s) (with_subtree d m (next_of s)) in
    omega arith

calm-with_subtree : (d : ℕ) (m : Node) (s : Edge) → Calm d (with_subtree d m s)
calm-with_subtree zero m s = tt
calm-with_subtree (suc d) m s = calm-with_subtree d m (next_of s)

-- ---- what waits has as many layers as are below it

abbrev FitsIn : ℕ → Edge → Type 0
FitsIn k Clear = Unit {0}
FitsIn k (Waiting m) = IsWithin k (Sub m)
FitsIn zero (Opened rows s) = FitsIn zero s
FitsIn (suc k) (Opened rows s) = FitsIn k s

fits-clear : (k : ℕ) → FitsIn k Clear
fits-clear zero = tt
fits-clear (suc k) = tt

fits-waits : (k : ℕ) (s : Edge) → FitsIn k s → waits s ≤ k
fits-waits k Clear h = omega arith
fits-waits zero (Waiting m) h = absurd h
fits-waits (suc k) (Waiting m) h = let i = spine-under_within k m h in omega arith
fits-waits zero (Opened rows s) h = fits-waits zero s h
fits-waits (suc k) (Opened rows s) h = let i = fits-waits k s h in omega arith

fits-calm : (d k n : ℕ) (s : Edge) → d + k ≡ n → Calm d s → FitsIn n s → waits s ≤ k
fits-calm zero k n s q c h = let i = fits-waits n s h in omega arith
fits-calm (suc d) k n Clear q c h = omega arith
fits-calm (suc d) k n (Waiting m) q c h = absurd c
fits-calm (suc d) k zero (Opened rows s) q c h = absurd (omega arith)
fits-calm (suc d) k (suc n) (Opened rows s) q c h = fits-calm d k n s (omega arith) c h

fits-edge_of : (k : ℕ) (p : Part) → IsWithin k p → FitsIn k (edge_of p)
fits-edge_of zero Nothing h = tt
fits-edge_of zero (Sub m) h = absurd h
fits-edge_of (suc k) Nothing h = tt
fits-edge_of (suc k) (Sub m) h = h

fits-none : (s : Edge) → FitsIn zero s → FitsIn zero (next_of s)
fits-none Clear h = tt
fits-none (Waiting m) h = absurd h
fits-none (Opened rows s) h = h

fits-next : (k : ℕ) (s : Edge) → FitsIn (suc k) s → FitsIn k (next_of s)
fits-next k Clear h = fits-clear k
fits-next k (Waiting m) h = fits-edge_of k (last_part m) (within-last k m h)
fits-next k (Opened rows s) h = h

fits-pair : (k d : ℕ) (e : Pair) (s : Edge) → FitsIn k s → FitsIn k (with_pair d e s)
fits-pair zero zero e s h = tt
fits-pair (suc k) zero e s h = fits-clear k
fits-pair zero (suc d) e s h = fits-pair zero d e (next_of s) (fits-none s h)
fits-pair (suc k) (suc d) e s h = fits-pair k d e (next_of s) (fits-next k s h)

fits-pairs : (n : ℕ) (depth : List ℕ → ℕ) (ps : List Pair) (s : Edge) → FitsIn n s → FitsIn n (with_pairs depth ps s)
fits-pairs n depth [] s h = h
fits-pairs n depth (p ∷ ps) s h = fits-pairs n depth ps (with_pair (depth p.0) p s) (fits-pair n (depth p.0) p s h)

fits-node : (k : ℕ) (m : Node) (rows : List (Part × Pair)) (s : Edge) → AllWithin k m → FitsIn k s
    → ((p : Part) → IsWithin k p → FitsIn k (with_part p s)) → FitsIn (suc k) (with_node m rows s)
fits-node k (Last p) rows s w h ih = ih p w
fits-node k (More p e r) rows s w h ih = fits-edge_of k (last_part r) (within-last k r w.1)

fits-part : (k : ℕ) (p : Part) (s : Edge) → IsWithin k p → FitsIn k s → FitsIn k (with_part p s)
fits-part k Nothing s w h = h
fits-part zero (Sub m) s w h = absurd w
fits-part (suc k) (Sub m) Clear w h = w
fits-part (suc k) (Sub m) (Waiting b) w h =
    let s = edge_of (last_part b) in
    let f = fits-edge_of k (last_part b) (within-last k b h) in
    fits-node k m (rows_in b) s w f (λ p v. fits-part k p s v f)
fits-part (suc k) (Sub m) (Opened rows s) w h = fits-node k m rows s w h (λ p v. fits-part k p s v h)

fits-subtree : (d k n : ℕ) (m : Node) (s : Edge) → d + k ≡ n → IsWithin k (Sub m) → FitsIn n s
    → FitsIn n (with_subtree d m s)
fits-subtree zero k n m s q w h =
    let e : k ≡ n = omega arith in fits-part n (Sub m) s (subst (λ i. IsWithin i (Sub m)) e w) h
fits-subtree (suc d) k zero m s q w h = absurd (omega arith)
fits-subtree (suc d) k (suc n) m s q w h = fits-subtree d k n m (next_of s) (omega arith) w (fits-next n s h)

-- ---- pairs in a gap

calm-waits : (d : ℕ) (s : Edge) → waits s ≡ 0 → Calm d s
calm-waits zero s h = tt
calm-waits (suc d) Clear h = tt
calm-waits (suc d) (Waiting m) h = absurd (omega arith)
calm-waits (suc d) (Opened rows s) h = calm-waits d s h

pairs-few : (depth : List ℕ → ℕ) (ps : List Pair) (s : Edge)
    → length (pairs_gone depth ps s) + waits (with_pairs depth ps s) ≤ waits s
pairs-few depth [] s = omega arith
pairs-few depth (p ∷ ps) s =
    let d = depth p.0 in
    let a = length-append (pair_gone d s) (pairs_gone depth ps (with_pair d p s)) in
    let w = pair-waits d p s in
    let z = waits-pair d p s in
    let i = pairs-few depth ps (with_pair d p s) in
    omega arith

has-pairs : (depth : List ℕ → ℕ) (ps : List Pair) (s : Edge) → HasPair s → HasPair (with_pairs depth ps s)
has-pairs depth [] s h = h
has-pairs depth (p ∷ ps) s h = has-pairs depth ps (with_pair (depth p.0) p s) (has-pair (depth p.0) p s)

-- ---- what changes cost

cost-one : (t : ℕ) (v : Option (List ℕ)) → suc (reads_of t v) ≤ reads_of (suc t) v
cost-one t None = omega arith
cost-one t (Some v) = omega arith

cost-all : (t : ℕ) (cs : List Change) → most_reads t cs ≤ most_reads (suc t) cs
cost-all t cs = sum-all (reads_of t) (reads_of (suc t)) cs (λ v. (let i = cost-one t v in omega arith))

cost-more : (t : ℕ) (c : Change) (cs : List Change) → suc (most_reads t (c ∷ cs)) ≤ most_reads (suc t) (c ∷ cs)
cost-more t c cs = let i = cost-all t cs in let j = cost-one t c.1 in omega arith

-- ---- the walk

module _ (layer : List ℕ → ℕ) (n : ℕ) where
  -- from where nothing is in the gap
  record Settled (d cost : ℕ) (gone : List Node) (s t : Edge) : Type 0 where
    reads : length gone ≤ cost
    calm : Calm d t
    fits : FitsIn n t
    has : HasPair s → HasPair t

  -- from where something may be there, which is paid for: k layers once more, and what waits now
  record Unsettled (d k cost : ℕ) (gone : List Node) (s t : Edge) : Type 0 where
    opens : (j : ℕ) → suc j ≤ d → length gone + length (pair_gone j t) ≤ waits s + (k + cost)
    keeps : length gone + waits t ≤ waits s + (2 * k + cost)
    tops : length gone + top_reads t ≤ waits s + (k + cost)
    calm : (j : ℕ) → j ≤ d → Calm j s → Calm j t
    fits : FitsIn n t
    has : HasPair s → HasPair t

  abbrev SettledPart : ℕ → Type 0
  SettledPart k = (d : ℕ) (p : Part) (cs : List Change) (s : Edge) → d + k ≡ n → IsWithin k p → FitsIn n s → Quiet d s
      → Settled d (most_reads k cs) (walk_gone layer n d p cs s) s (walk_part layer n d p cs s)

  abbrev UnsettledPart : ℕ → Type 0
  UnsettledPart k = (d : ℕ) (p : Part) (cs : List Change) (s : Edge) → d + k ≡ n → IsWithin k p → FitsIn n s
      → Unsettled d k (most_reads k cs) (walk_gone layer n d p cs s) s (walk_part layer n d p cs s)

  abbrev HasRow : Node → Type 0
  HasRow (Last p) = ⊥
  HasRow (More p e r) = Unit {0}

  -- of a node of the layer above k layers, with what the top reads where it has a pair of its own
  record SettledNode (k d cost : ℕ) (m : Node) (gone : List Node) (s t : Edge) : Type 0 where
    settled : Settled (suc d) cost gone s t
    tops : HasRow m → length gone + top_reads t ≤ cost

  abbrev SettlesNode : ℕ → ℕ → Node → List Change → Edge → Type 0
  SettlesNode k d m cs s = SettledNode k d (most_reads k cs) m (walk_under_gone layer n d m cs s) s
      (walk_node layer n d m cs s)

  abbrev UnsettlesNode : ℕ → ℕ → Node → List Change → Edge → Type 0
  UnsettlesNode k d m cs s = Unsettled (suc d) k (most_reads k cs) (walk_under_gone layer n d m cs s) s
      (walk_node layer n d m cs s)

  -- ---- a row: a gap, what is left of a pair, and the rest

  abbrev row_gone : ℕ → Part → List Change → List Pair → Node → List Change → Edge → List Node
  row_gone d p bs ps r ds s =
      let s1 = walk_part layer n (suc d) p bs s in
      walk_gone layer n (suc d) p bs s
      ++ (pairs_gone (λ key. d) ps s1 ++ walk_under_gone layer n d r ds (with_pairs (λ key. d) ps s1))

  abbrev row_edge : ℕ → Part → List Change → List Pair → Node → List Change → Edge → Edge
  row_edge d p bs ps r ds s =
      walk_node layer n d r ds (with_pairs (λ key. d) ps (walk_part layer n (suc d) p bs s))

  one-gone : (d : ℕ) (e : Pair) (s : Edge) → length (pairs_gone (λ key. d) (e ∷ []) s) ≡ length (pair_gone d s)
  one-gone d e s = let a = length-append (pair_gone d s) [] in omega arith

  abbrev Rest : ℕ → ℕ → Node → List Change → Type 0
  Rest k d r ds = (s : Edge) → FitsIn n s → Quiet (suc d) s → SettlesNode k d r ds s

  abbrev OpenRest : ℕ → ℕ → Node → List Change → Type 0
  OpenRest k d r ds = (s : Edge) → FitsIn n s → UnsettlesNode k d r ds s

  -- a pair stays
  kept-settled : (k d : ℕ) (p : Part) (e : Pair) (r : Node) (bs ds : List Change) (s : Edge) (cost : ℕ)
      → most_reads k bs + most_reads k ds ≤ cost → SettledPart k → Rest k d r ds → suc d + k ≡ n → IsWithin k p
      → FitsIn n s → Quiet (suc d) s
      → SettledNode k d cost (More p e r) (row_gone d p bs (e ∷ []) r ds s) s (row_edge d p bs (e ∷ []) r ds s)
  kept-settled k d p e r bs ds s cost c ih rest q w f h =
      let s1 = walk_part layer n (suc d) p bs s in
      let s2 = with_pair d e s1 in
      let i = ih (suc d) p bs s q w f h in
      let i1 = i.reads in
      let o = one-gone d e s1 in
      let u = calm-unread (suc d) d s1 (omega arith) i.calm in
      let j = (rest s2 (fits-pair n d e s1 i.fits) (quiet-pair d e s1)).settled in
      let j1 = j.reads in
      let has = j.has (has-pair d e s1) in
      let t = top-unread (walk_node layer n d r ds s2) has in
      let a = length-three (walk_gone layer n (suc d) p bs s) (pairs_gone (λ key. d) (e ∷ []) s1)
      (walk_under_gone layer n d r ds s2) in
      record {
        settled = record { reads = omega arith; calm = j.calm; fits = j.fits; has = λ x. has };
        tops = λ x. omega arith;
      }

  kept-unsettled : (k d : ℕ) (p : Part) (e : Pair) (r : Node) (bs ds : List Change) (s : Edge) (cost : ℕ)
      → most_reads k bs + most_reads k ds ≤ cost → UnsettledPart k → Rest k d r ds → suc d + k ≡ n → IsWithin k p
      → FitsIn n s
      → Unsettled (suc d) k cost (row_gone d p bs (e ∷ []) r ds s) s (row_edge d p bs (e ∷ []) r ds s)
  kept-unsettled k d p e r bs ds s cost c ih rest q w f =
      let s1 = walk_part layer n (suc d) p bs s in
      let s2 = with_pair d e s1 in
      let i = ih (suc d) p bs s q w f in
      let i1 = i.opens d (omega arith) in
      let o = one-gone d e s1 in
      let j = (rest s2 (fits-pair n d e s1 i.fits) (quiet-pair d e s1)).settled in
      let j1 = j.reads in
      let has = j.has (has-pair d e s1) in
      let last = walk_node layer n d r ds s2 in
      let t = top-unread last has in
      let l = fits-calm (suc d) k n last q j.calm j.fits in
      let a = length-three (walk_gone layer n (suc d) p bs s) (pairs_gone (λ key. d) (e ∷ []) s1)
      (walk_under_gone layer n d r ds s2) in
      record {
        opens = λ x y. (let z = calm-unread (suc d) x last y j.calm in omega arith);
        keeps = omega arith;
        tops = omega arith;
        calm = λ x y z. calm-few x (suc d) last y j.calm;
        fits = j.fits;
        has = λ x. has;
      }

  -- a pair goes: it pays for what may wait on its left and for what comes on its right
  gone-settled : (k d : ℕ) (p : Part) (e : Pair) (r : Node) (bs ds : List Change) (s : Edge) (cost : ℕ)
      → most_reads k bs + (2 * k + most_reads k ds) ≤ cost → SettledPart k → OpenRest k d r ds → suc d + k ≡ n
      → IsWithin k p → FitsIn n s → Quiet (suc d) s
      → SettledNode k d cost (More p e r) (row_gone d p bs [] r ds s) s (row_edge d p bs [] r ds s)
  gone-settled k d p e r bs ds s cost c ih rest q w f h =
      let s1 = walk_part layer n (suc d) p bs s in
      let i = ih (suc d) p bs s q w f h in
      let i1 = i.reads in
      let l = fits-calm (suc d) k n s1 q i.calm i.fits in
      let j = rest s1 i.fits in
      let j1 = j.tops in
      let a = length-append (walk_gone layer n (suc d) p bs s) (walk_under_gone layer n d r ds s1) in
      record {
        settled = record { reads = omega arith; calm = j.calm (suc d) (omega arith) i.calm; fits = j.fits; has = λ x. j.has (i.has x) };
        tops = λ x. omega arith;
      }

  gone-unsettled : (k d : ℕ) (p : Part) (r : Node) (bs ds : List Change) (s : Edge) (cost : ℕ)
      → most_reads k bs + (2 * k + most_reads k ds) ≤ cost → UnsettledPart k → OpenRest k d r ds → suc d + k ≡ n
      → IsWithin k p → FitsIn n s
      → Unsettled (suc d) k cost (row_gone d p bs [] r ds s) s (row_edge d p bs [] r ds s)
  gone-unsettled k d p r bs ds s cost c ih rest q w f =
      let s1 = walk_part layer n (suc d) p bs s in
      let i = ih (suc d) p bs s q w f in
      let i1 = i.keeps in
      let j = rest s1 i.fits in
      let j1 = j.keeps in
      let j2 = j.tops in
      let a = length-append (walk_gone layer n (suc d) p bs s) (walk_under_gone layer n d r ds s1) in
      record {
        opens = λ x y. (let z = j.opens x y in omega arith);
        keeps = omega arith;
        tops = omega arith;
        calm = λ x y z. j.calm x y (i.calm x y z);
        fits = j.fits;
        has = λ x. j.has (i.has x);
      }

  row-settled : (k d : ℕ) (p : Part) (e : Pair) (r : Node) (bs ds : List Change) (o : Option (Option (List ℕ)))
      (s : Edge) (cost : ℕ) → most_reads k bs + (at_sum (reads_of k) o + most_reads k ds) ≤ cost → SettledPart k
      → Rest k d r ds → OpenRest k d r ds → suc d + k ≡ n → IsWithin k p → FitsIn n s → Quiet (suc d) s
      → SettledNode k d cost (More p e r) (row_gone d p bs (entry o e) r ds s) s (row_edge d p bs (entry o e) r ds s)
  row-settled k d p e r bs ds None s cost c ih rest open_rest q w f h =
      kept-settled k d p e r bs ds s cost (omega arith) ih rest q w f h
  row-settled k d p e r bs ds (Some None) s cost c ih rest open_rest q w f h =
      gone-settled k d p e r bs ds s cost c ih open_rest q w f h
  row-settled k d p e r bs ds (Some (Some v)) s cost c ih rest open_rest q w f h =
      let i = kept-settled k d p (e.0, v) r bs ds s cost (omega arith) ih rest q w f h in
      record { settled = i.settled; tops = λ x. i.tops tt }

  row-unsettled : (k d : ℕ) (p : Part) (e : Pair) (r : Node) (bs ds : List Change) (o : Option (Option (List ℕ)))
      (s : Edge) (cost : ℕ) → most_reads k bs + (at_sum (reads_of k) o + most_reads k ds) ≤ cost → UnsettledPart k
      → Rest k d r ds → OpenRest k d r ds → suc d + k ≡ n → IsWithin k p → FitsIn n s
      → Unsettled (suc d) k cost (row_gone d p bs (entry o e) r ds s) s (row_edge d p bs (entry o e) r ds s)
  row-unsettled k d p e r bs ds None s cost c ih rest open_rest q w f =
      kept-unsettled k d p e r bs ds s cost (omega arith) ih rest q w f
  row-unsettled k d p e r bs ds (Some None) s cost c ih rest open_rest q w f =
      gone-unsettled k d p r bs ds s cost c ih open_rest q w f
  row-unsettled k d p e r bs ds (Some (Some v)) s cost c ih rest open_rest q w f =
      kept-unsettled k d p (e.0, v) r bs ds s cost (omega arith) ih rest q w f

  -- ---- a node

  mutual
    settled-node : (k d : ℕ) (m : Node) (cs : List Change) (s : Edge) → SettledPart k → UnsettledPart k → suc d + k ≡ n
        → AllWithin k m → FitsIn n s → Quiet (suc d) s → SettlesNode k d m cs s
    settled-node k d (Last p) cs s ih open_ih q w f h =
        record { settled = ih (suc d) p cs s q w f h; tops = λ x. absurd x }
    settled-node k d (More p e r) cs s ih open_ih q w f h =
        let ds = after e.0 cs in
        row-settled k d p e r (before e.0 cs) ds (at_key e.0 cs) s (most_reads k cs) (sum-split (reads_of k) e.0 cs) ih
        (λ t g u. settled-node k d r ds t ih open_ih q w.1 g u) (λ t g. unsettled-node k d r ds t ih open_ih q w.1 g)
        q w.0 f h

    unsettled-node : (k d : ℕ) (m : Node) (cs : List Change) (s : Edge) → SettledPart k → UnsettledPart k
        → suc d + k ≡ n → AllWithin k m → FitsIn n s → UnsettlesNode k d m cs s
    unsettled-node k d (Last p) cs s ih open_ih q w f = open_ih (suc d) p cs s q w f
    unsettled-node k d (More p e r) cs s ih open_ih q w f =
        let ds = after e.0 cs in
        row-unsettled k d p e r (before e.0 cs) ds (at_key e.0 cs) s (most_reads k cs) (sum-split (reads_of k) e.0 cs) open_ih
        (λ t g u. settled-node k d r ds t ih open_ih q w.1 g u) (λ t g. unsettled-node k d r ds t ih open_ih q w.1 g)
        q w.0 f

  -- ---- a gap

  settled-nothing : (k d : ℕ) (cs : List Change) (s : Edge) → FitsIn n s → Quiet d s
      → Settled d (most_reads k cs) (walk_gone layer n d Nothing cs s) s (walk_part layer n d Nothing cs s)
  settled-nothing k d cs s f h =
      let depth = depth_of layer n in
      let i = pairs-few depth (puts cs) s in
      let z = waits-quiet d s h in
      record {
        reads = omega arith;
        calm = calm-waits d (with_pairs depth (puts cs) s) (omega arith);
        fits = fits-pairs n depth (puts cs) s f;
        has = has-pairs depth (puts cs) s;
      }

  calm-pairs : (d : ℕ) (ps : List Pair) (s : Edge) → Calm d s → Calm d (with_pairs (depth_of layer n) ps s)
  calm-pairs d [] s h = h
  calm-pairs d (p ∷ ps) s h =
      let e = depth_of layer n p.0 in
      let i = pairs-few (depth_of layer n) ps (with_pair e p s) in
      let z = waits-pair e p s in
      calm-waits d (with_pairs (depth_of layer n) ps (with_pair e p s)) (omega arith)

  unsettled-nothing : (k d : ℕ) (cs : List Change) (s : Edge) → FitsIn n s
      → Unsettled d k (most_reads k cs) (walk_gone layer n d Nothing cs s) s (walk_part layer n d Nothing cs s)
  unsettled-nothing k d cs s f =
      let depth = depth_of layer n in
      let t = with_pairs depth (puts cs) s in
      let i = pairs-few depth (puts cs) s in
      let u = top-waits t in
      record {
        opens = λ x y. (let z = pair-waits x ([], []) t in omega arith);
        keeps = omega arith;
        tops = omega arith;
        calm = λ x y z. calm-pairs x (puts cs) s z;
        fits = fits-pairs n depth (puts cs) s f;
        has = has-pairs depth (puts cs) s;
      }

  mutual
    settled-part : (k : ℕ) → SettledPart k
    settled-part k d Nothing cs s q w f h = settled-nothing k d cs s f h
    settled-part zero d (Sub m) cs s q w f h = absurd w
    settled-part (suc k) d (Sub m) [] s q w f h = record {
      reads = rw (subtree-unread d m s h) (omega arith);
      calm = calm-subtree d m s h;
      fits = fits-subtree d (suc k) n m s q w f;
      has = has-subtree d m s;
    }
    settled-part (suc k) d (Sub m) (c ∷ cs) s q w f h =
        let i = (settled-node k d m (c ∷ cs) s (settled-part k) (unsettled-part k) (omega arith) w f (quiet-more d s h)).settled in
        let i1 = i.reads in
        let x = cost-more k c cs in
        record {
          reads = omega arith;
          calm = calm-less d (walk_node layer n d m (c ∷ cs) s) i.calm;
          fits = i.fits;
          has = i.has;
        }

    unsettled-part : (k : ℕ) → UnsettledPart k
    unsettled-part k d Nothing cs s q w f = unsettled-nothing k d cs s f
    unsettled-part zero d (Sub m) cs s q w f = absurd w
    unsettled-part (suc k) d (Sub m) [] s q w f =
        let t = with_subtree d m s in
        let i = subtree-few d (suc k) m s w in
        let c = calm-with_subtree d m s in
        let g = fits-subtree d (suc k) n m s q w f in
        let l = fits-calm d (suc k) n t q c g in
        record {
          opens = λ x y. (let z = calm-unread d x t y c in omega arith);
          keeps = omega arith;
          tops = omega arith;
          calm = λ x y z. calm-few x d t y c;
          fits = g;
          has = has-subtree d m s;
        }
    unsettled-part (suc k) d (Sub m) (c ∷ cs) s q w f =
        let t = walk_node layer n d m (c ∷ cs) s in
        let i = unsettled-node k d m (c ∷ cs) s (settled-part k) (unsettled-part k) (omega arith) w f in
        let i1 = i.keeps in
        let i2 = i.tops in
        let x = cost-all k (c ∷ cs) in
        record {
          opens = λ j y. (let z = i.opens j (omega arith) in omega arith);
          keeps = omega arith;
          tops = omega arith;
          calm = λ x y z. i.calm x (omega arith) z;
          fits = i.fits;
          has = i.has;
        }

  -- ---- the whole tree

  whole : (k : ℕ) (m : Node) (cs : List Change) → layer_of layer m ≡ k → k < n → AllWithin k m → let d = n - suc k in
      length (walk_under_gone layer n d m cs Clear) + top_reads (walk_node layer n d m cs Clear) ≤ most_reads k cs
  whole k (Last Nothing) cs q l w =
      let i = pairs-few (depth_of layer n) (puts cs) Clear in
      let u = top-waits (with_pairs (depth_of layer n) (puts cs) Clear) in
      omega arith
  whole zero (Last (Sub m)) cs q l w = absurd w
  whole (suc k) (Last (Sub m)) cs q l w = absurd (omega arith)
  whole k (More p e r) cs q l w =
      let d = n - suc k in
      (settled-node k d (More p e r) cs Clear (settled-part k) (unsettled-part k) (omega arith) w (fits-clear n)
      (quiet-clear (suc d))).tops tt

  whole-reads : (k : ℕ) (m : Node) (cs : List Change) → layer_of layer m ≡ k → k < n → AllWithin k m
      → length (batch_read layer n cs m) ≤ suc (most_reads k cs)
  whole-reads k m cs q l w =
      let d = n - suc k in
      let same : n - suc (layer_of layer m) ≡ d = ap (λ i. n - suc i) q in
      let h = whole k m cs q l w in
      let s = walk_top layer n cs m in
      let i = subst (λ i. length (walk_under_gone layer n i m cs Clear) + top_reads (walk_node layer n i m cs Clear)
      ≤ most_reads k cs) (sym same) h in
      let a = length-append (batch_gone layer n cs m) (top_left s) in
      let b = length-append (m ∷ walk_under_gone layer n (n - suc (layer_of layer m)) m cs Clear) (top_gone s) in
      omega arith

pub batch-reads_few : BatchReadsFew
batch-reads_few layer n cs es l =
    let k = top_layer layer es in
    whole-reads layer n k (top layer es) cs (layer_of-top layer es) l (within-tree layer k es)

-- Numbers over all nodes, and over all pairs, of a line that is opened.
use Rattle.std.proofs.Common.{◌≡◌, ℕ, ◌+◌, Bool, true, false, List, [], ◌∷◌, ◌++◌, refl, arith}
use Rattle.spec.specs.Tree.{Pair, Node, Part, Last, More, Nothing, Sub, pairs_in, pairs_under}
use Rattle.edit_laws.specs.Changes.{has_cid}
use Rattle.edit_laws.specs.Trace.{weight, weight_under, total}
use Rattle.difference_laws.proofs.Opening.{tops, own, spliced_node, spread, cid_of, kept, bare}

weight-spliced : (w : Node → ℕ) (m : Node) (e : Pair) (r : Node)
    → weight_under w (spliced_node m e r) ≡ weight_under w m + weight_under w r
weight-spliced w (Last p) e r = refl
weight-spliced w (More p f s) e r = let i = weight-spliced w s e r in omega arith

pub weight-spread : (w : Node → ℕ) (m : Node) → weight_under w m ≡ total w (tops m) + weight_under w (spread m)
weight-spread w (Last Nothing) = refl
weight-spread w (Last (Sub k)) = omega arith
weight-spread w (More Nothing e r) = let i = weight-spread w r in omega arith
weight-spread w (More (Sub k) e r) =
    let i = weight-spread w r in let j = weight-spliced w k e (spread r) in omega arith

-- ---- pairs

abbrev pub tally : (Pair → ℕ) → List Pair → ℕ
tally f [] = 0
tally f (e ∷ es) = f e + tally f es

pub tally-append : (f : Pair → ℕ) (xs ys : List Pair) → tally f (xs ++ ys) ≡ tally f xs + tally f ys
tally-append f [] ys = omega arith
tally-append f (x ∷ xs) ys = let i = tally-append f xs ys in omega arith

-- those of a node
abbrev pub rows : (Pair → ℕ) → Node → ℕ
rows f k = tally f (own k)

rows-spliced : (f : Pair → ℕ) (m : Node) (e : Pair) (r : Node)
    → rows f (spliced_node m e r) ≡ rows f m + (f e + rows f r)
rows-spliced f (Last p) e r = omega arith
rows-spliced f (More p g s) e r = let i = rows-spliced f s e r in omega arith

pub rows-spread : (f : Pair → ℕ) (m : Node) → rows f (spread m) ≡ rows f m + total (rows f) (tops m)
rows-spread f (Last Nothing) = refl
rows-spread f (Last (Sub k)) = omega arith
rows-spread f (More Nothing e r) = let i = rows-spread f r in omega arith
rows-spread f (More (Sub k) e r) =
    let i = rows-spread f r in let j = rows-spliced f k e (spread r) in omega arith

mutual
  pub tally-part : (f : Pair → ℕ) (p : Part) → tally f (pairs_in p) ≡ weight (rows f) p
  tally-part f Nothing = refl
  tally-part f (Sub m) = tally-under f m

  pub tally-under : (f : Pair → ℕ) (m : Node) → tally f (pairs_under m) ≡ rows f m + weight_under (rows f) m
  tally-under f (Last p) = let i = tally-part f p in omega arith
  tally-under f (More p e r) =
      let i = tally-part f p in
      let j = tally-under f r in
      let k = tally-append f (pairs_in p) (e ∷ pairs_under r) in
      omega arith

-- ---- what is left out

abbrev pub picked : Bool → ℕ → ℕ
picked true n = n
picked false n = 0

-- of nodes with one of these marks
abbrev pub taken : (Node → ℕ) → (Node → List ℕ) → List (List ℕ) → List Node → ℕ
taken v mark cs [] = 0
taken v mark cs (k ∷ ks) = picked (has_cid (mark k) cs) (v k) + taken v mark cs ks

-- a node with all below it
abbrev pub heavy : (Node → ℕ) → Node → ℕ
heavy w k = w k + weight_under w k

module _ (digest : List ℕ → List ℕ) where
  weight-kept : (w : Node → ℕ) (t : Bool) (k : Node) → weight w (kept digest t k) + picked t (heavy w k) ≡ heavy w k
  weight-kept w true k = omega arith
  weight-kept w false k = omega arith

  pub weight-bare : (w : Node → ℕ) (cs : List (List ℕ)) (m : Node)
      → weight_under w (bare digest cs m) + taken (heavy w) (cid_of digest) cs (tops m) ≡ weight_under w m
  weight-bare w cs (Last Nothing) = refl
  weight-bare w cs (Last (Sub k)) = let i = weight-kept w (has_cid (cid_of digest k) cs) k in omega arith
  weight-bare w cs (More Nothing e r) = let i = weight-bare w cs r in omega arith
  weight-bare w cs (More (Sub k) e r) =
      let i = weight-kept w (has_cid (cid_of digest k) cs) k in let j = weight-bare w cs r in omega arith

-- How many layers of nodes a tree has: a tree of layer n has at most n of them below its top.
use Rattle.std.proofs.Common.{ℕ, zero, suc, ◌≤◌, List, [], ◌∷◌, arith}
use Rattle.std.specs.declared.cmp.Ordering.{Ordering}
use Rattle.std.specs.declared.cmp.Ordering.TheVariants.{Less, Equal, Greater}
use Rattle.spec.specs.Tree.{Pair, Node, Part, Last, More, Nothing, Sub, Groups, LastGroup, MoreGroups, cut, node_of, below, tree, top_layer, top}
use Rattle.edit_laws.specs.Order.{order}
use Rattle.edit_laws.specs.TreeEdit.{first, Place, further, locate, open_part, layer_of}
use Rattle.edit_laws.specs.Trace.{last_part}
use Rattle.edit_laws.proofs.Tops.{layer_of-top}

-- at most n layers of nodes
abbrev mutual
  pub IsWithin : ℕ → Part → Type 0
  IsWithin n Nothing = Unit {0}
  IsWithin zero (Sub m) = ⊥
  IsWithin (suc n) (Sub m) = AllWithin n m

  pub AllWithin : ℕ → Node → Type 0
  AllWithin n (Last p) = IsWithin n p
  AllWithin n (More p e r) = IsWithin n p × AllWithin n r

pub within-first : (n : ℕ) (m : Node) → AllWithin n m → IsWithin n (first m)
within-first n (Last p) h = h
within-first n (More p e r) h = h.0

within-further : (n : ℕ) (o : Ordering) (p : Part) (e : Pair) (r : Node) (q : Place) → IsWithin n p → AllWithin n r
    → AllWithin n q.here → AllWithin n (further o p e r q).here
within-further n Less p e r q h k i = i
within-further n Equal p e r q h k i = (h, k)
within-further n Greater p e r q h k i = (h, k)

pub within-locate : (n : ℕ) (key : List ℕ) (m : Node) → AllWithin n m → AllWithin n (locate key m).here
within-locate n key (Last p) h = h
within-locate n key (More p e r) h =
    within-further n (order e.0 key) p e r (locate key r) h.0 h.1 (within-locate n key r h.1)

pub within-last : (n : ℕ) (m : Node) → AllWithin n m → IsWithin n (last_part m)
within-last n (Last p) h = h
within-last n (More p e r) h = within-last n r h.1

pub within-rest : (n : ℕ) (key : List ℕ) (m : Node) → AllWithin n m → IsWithin n (first (locate key m).here)
within-rest n key m h = within-first n (locate key m).here (within-locate n key m h)

pub within-open : (n : ℕ) (g : Part) → IsWithin (suc n) g → AllWithin n (open_part g)
within-open n Nothing h = tt
within-open n (Sub m) h = h

-- ---- enough layers stay enough

mutual
  pub within-up : (n m : ℕ) (p : Part) → n ≤ m → IsWithin n p → IsWithin m p
  within-up n m Nothing l h = tt
  within-up zero m (Sub k) l h = absurd h
  within-up (suc n) zero (Sub k) l h = absurd (omega arith)
  within-up (suc n) (suc m) (Sub k) l h = within-under-up n m k (omega arith) h

  pub within-under-up : (n m : ℕ) (k : Node) → n ≤ m → AllWithin n k → AllWithin m k
  within-under-up n m (Last p) l h = within-up n m p l h
  within-under-up n m (More p e r) l h = (within-up n m p l h.0, within-under-up n m r l h.1)

-- ---- the tree of some pairs

within-groups : (n : ℕ) (part : List Pair → Part) → ((xs : List Pair) → IsWithin n (part xs)) → (g : Groups)
    → AllWithin n (node_of part g)
within-groups n part h (LastGroup g) = h g
within-groups n part h (MoreGroups g e r) = (h g, within-groups n part h r)

pub within-below : (layer : List ℕ → ℕ) (n : ℕ) (es : List Pair) → IsWithin n (below layer n es)
within-below layer zero es = tt
within-below layer (suc n) [] = tt
within-below layer (suc n) (e ∷ es) = within-groups n (below layer n) (within-below layer n) (cut layer n (e ∷ es))

pub within-tree : (layer : List ℕ → ℕ) (n : ℕ) (es : List Pair) → AllWithin n (tree layer n es)
within-tree layer n es = within-groups n (below layer n) (within-below layer n) (cut layer n es)

-- a whole tree keeps within the layer of its top
pub within-top : (layer : List ℕ → ℕ) (es : List Pair) → AllWithin (layer_of layer (top layer es)) (top layer es)
within-top layer es = rw (layer_of-top layer es) (within-tree layer (top_layer layer es) es)

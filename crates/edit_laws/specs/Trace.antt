-- Numbers over all nodes of a tree, and the nodes that a look-up and a delete of one key read.
use Rattle.std.specs.Prelude.{ℕ, List, [], ◌∷◌, ◌++◌, ◌+◌, nat_eq, zero, suc, if◌then◌else◌}
use Rattle.edit_laws.specs.Order.{order, if_equal}
use Rattle.spec.specs.Tree.{Node, Part, Last, More, Nothing, Sub}
use Rattle.edit_laws.specs.TreeEdit.{first, locate, close, open_part, layer_of}
use Rattle.edit_laws.specs.PathEdit.{flat}

-- a number for each node, over all nodes of a part
abbrev mutual
  pub weight : (Node → ℕ) → Part → ℕ
  weight w Nothing = 0
  weight w (Sub m) = w m + weight_under w m

  -- all nodes below a node
  pub weight_under : (Node → ℕ) → Node → ℕ
  weight_under w (Last p) = weight w p
  weight_under w (More p e r) = weight w p + weight_under w r

-- the number of nodes
abbrev mutual
  pub size : Part → ℕ
  size Nothing = 0
  size (Sub m) = suc (size_under m)

  pub size_under : Node → ℕ
  size_under (Last p) = size p
  size_under (More p e r) = size p + size_under r

-- over a list of nodes
abbrev pub total : (Node → ℕ) → List Node → ℕ
total w [] = 0
total w (m ∷ ms) = w m + total w ms

abbrev pub nodes_of : Part → List Node
nodes_of Nothing = []
nodes_of (Sub m) = m ∷ []

-- the node made where a node becomes a part
abbrev pub made_close : Node → List Node
made_close m = nodes_of (close m)

abbrev pub last_part : Node → Part
last_part (Last p) = p
last_part (More p e r) = last_part r

-- ---- a delete

-- one thing where a top loses its only key, another else
abbrev pub at_single : {A : Type 0} → List ℕ → Node → (Part → Part → A) → A → A
at_single key (Last p) x y = y
at_single key (More p e (Last q)) x y = if_equal (order e.0 key) (x p q) y
at_single key (More p e (More q f r)) x y = y

-- the pairs of nodes that meet in a merge, from the top down
abbrev pub merge_pairs : ℕ → Part → Part → List (Node × Node)
merge_pairs zero p q = []
merge_pairs (suc n) Nothing q = []
merge_pairs (suc n) (Sub m) Nothing = []
merge_pairs (suc n) (Sub m) (Sub k) = (m, k) ∷ merge_pairs n (last_part m) (first k)

-- the nodes below a node down to the layer of a key, and there the node's rest at the key
abbrev pub delete_path_nodes : (List ℕ → ℕ) → ℕ → List ℕ → Node → List Node
delete_path_nodes layer zero key m = []
delete_path_nodes layer (suc n) key m =
    let g = first (locate key m).here in
    if nat_eq (layer key) (suc n) then [] else nodes_of g ++ delete_path_nodes layer n key (open_part g)

-- where a key's row has to be: the layer, and the rest of that node from the row on
abbrev pub lowest_at : (List ℕ → ℕ) → ℕ → List ℕ → Node → ℕ × Node
lowest_at layer zero key m = (zero, (locate key m).here)
lowest_at layer (suc n) key m =
    let h = (locate key m).here in
    if nat_eq (layer key) (suc n) then (suc n, h) else lowest_at layer n key (open_part (first h))

-- something of the two parts beside a key that comes first, and else another
abbrev pub beside : {A : Type 0} → List ℕ → Node → (Part → Part → A) → A → A
beside key (Last g) x y = y
beside key (More g e r) x y = if_equal (order e.0 key) (x g (first r)) y

abbrev pub seam_pairs : (List ℕ → ℕ) → ℕ → List ℕ → Node → List (Node × Node)
seam_pairs layer n key m = let r = lowest_at layer n key m in beside key r.1 (merge_pairs r.0) []

-- where two adjacent parts, with no key around them, come down to one part: the layers below it, and that part
abbrev pub trim_left : ℕ → Part → Part → ℕ × Part
trim_left zero p q = (zero, Nothing)
trim_left (suc n) Nothing q = (n, q)
trim_left (suc n) (Sub m) Nothing = (n, Sub m)
trim_left (suc n) (Sub (Last p)) (Sub (Last q)) = trim_left n p q
trim_left (suc n) (Sub (Last p)) (Sub (More q e r)) = (n, Nothing)
trim_left (suc n) (Sub (More p e r)) (Sub k) = (n, Nothing)

-- the nodes without keys from a part down, and the first one with a key
abbrev pub prune_path : ℕ → Part → List Node
prune_path n Nothing = []
prune_path zero (Sub m) = m ∷ []
prune_path (suc n) (Sub (Last p)) = Last p ∷ prune_path n p
prune_path (suc n) (Sub (More p e r)) = More p e r ∷ []

abbrev pub delete_left : (List ℕ → ℕ) → List ℕ → Node → ℕ × Part
delete_left layer key m = at_single key m (trim_left (layer_of layer m)) (0, Nothing)

-- all nodes that a delete reads where the key is there: those of its path, those that meet where it stood, and the chain
-- below a top that loses its only key, down to the first node with a key
abbrev pub delete_path_read : (List ℕ → ℕ) → List ℕ → Node → List Node
delete_path_read layer key m =
    let t = layer_of layer m in
    let left = delete_left layer key m in
    m ∷ (delete_path_nodes layer t key m ++ (flat (seam_pairs layer t key m) ++ prune_path left.0 left.1))

-- ---- the nodes that a look-up reads, from the top down

abbrev pub find_path : ℕ → List ℕ → Part → List Node
find_path zero key p = []
find_path (suc n) key Nothing = []
find_path (suc n) key (Sub m) =
    let h = (locate key m).here in m ∷ beside key h (λ p q. []) (find_path n key (first h))

-- What a delete reads, from the list of the nodes on the path of its key, the top first.
use Rattle.std.specs.Prelude.{ℕ, List, [], ◌∷◌, ◌++◌, Option, None}
use Rattle.spec.specs.NodeFormat.{Shape, LastLink}
use Rattle.edit_laws.specs.ShapeEdit.{head_shape, trim_links, last_shape, single_shape}

-- the last node of the path, which has the key
abbrev pub lowest_shape : List Shape → Shape
lowest_shape path = last_shape (LastLink None) path

-- where a top that loses its only key comes down to one subtree: the link at which pruning begins
abbrev pub prune_link : List ℕ → List Shape → List (Shape × Shape) → Option (List ℕ)
prune_link key path seam = single_shape key (head_shape path) (λ l k. trim_links l k seam) None

-- pairs, one node after the other
abbrev pub flat : {A : Type 0} → List (A × A) → List A
flat [] = []
flat (x ∷ xs) = x.0 ∷ x.1 ∷ flat xs

-- all nodes that are read: the path, the pairs that meet where the key stood, and the chain that is pruned
abbrev pub delete_read : List Shape → List (Shape × Shape) → List Shape → List Shape
delete_read path seam pruned = path ++ (flat seam ++ pruned)

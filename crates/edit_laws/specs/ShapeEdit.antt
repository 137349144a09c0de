-- What is computed from the shapes of nodes, with no tree.
use Rattle.std.specs.Prelude.{ℕ, zero, suc, nat_eq, List, [], ◌∷◌, Option, Some, None, if◌then◌else◌}
use Rattle.std.specs.declared.cmp.Ordering.{Ordering}
use Rattle.std.specs.declared.cmp.Ordering.TheVariants.{Less, Equal, Greater}
use Rattle.edit_laws.specs.Order.{order, if_equal}
use Rattle.spec.specs.NodeFormat.{Shape, LastLink, MoreLinks, first_link, shape_cid}

-- a node without keys and without a link is no node
abbrev pub close_link : (List ℕ → List ℕ) → Shape → Option (List ℕ)
close_link digest (LastLink None) = None
close_link digest (LastLink (Some c)) = Some (shape_cid digest (LastLink (Some c)))
close_link digest (MoreLinks l e r) = Some (shape_cid digest (MoreLinks l e r))

abbrev pub close_shapes : Shape → List Shape
close_shapes (LastLink None) = []
close_shapes (LastLink (Some c)) = LastLink (Some c) ∷ []
close_shapes (MoreLinks l e r) = MoreLinks l e r ∷ []

-- ---- nodes and links

abbrev pub head_shape : List Shape → Shape
head_shape [] = LastLink None
head_shape (s ∷ ss) = s

abbrev pub tail_shapes : List Shape → List Shape
tail_shapes [] = []
tail_shapes (s ∷ ss) = ss

abbrev pub last_link : Shape → Option (List ℕ)
last_link (LastLink l) = l
last_link (MoreLinks l e r) = last_link r

abbrev pub one_link : Option (List ℕ) → Option (List ℕ) → Option (List ℕ)
one_link None y = y
one_link (Some x) y = Some x

abbrev pub layer_of_shape : (List ℕ → ℕ) → Shape → ℕ
layer_of_shape layer (LastLink l) = 0
layer_of_shape layer (MoreLinks l e r) = layer e.0

-- ---- where a key goes

-- the links beside a key
abbrev pub links_beside_at : Ordering → Option (List ℕ) → Option (List ℕ) → Option (List ℕ) × Option (List ℕ)
    → Option (List ℕ) × Option (List ℕ)
links_beside_at Less l x further = further
links_beside_at Equal l x further = (l, x)
links_beside_at Greater l x further = (None, None)

abbrev pub links_beside : List ℕ → Shape → Option (List ℕ) × Option (List ℕ)
links_beside key (LastLink l) = (None, None)
links_beside key (MoreLinks l e r) = links_beside_at (order e.0 key) l (first_link r) (links_beside key r)

-- those in the node of layer j, on a path down from a node of layer n
abbrev pub path_links : ℕ → ℕ → List ℕ → Shape → List Shape → Option (List ℕ) × Option (List ℕ)
path_links j zero key s path = links_beside key s
path_links j (suc n) key s path =
    if nat_eq j (suc n) then links_beside key s else path_links j n key (head_shape path) (tail_shapes path)

-- ---- a top that loses its only key, from the pairs of nodes that meet

-- the link at which pruning begins
abbrev pub trim_links : Option (List ℕ) → Option (List ℕ) → List (Shape × Shape) → Option (List ℕ)
trim_links x y [] = one_link x y
trim_links x y ((LastLink p, LastLink q) ∷ ss) = trim_links p q ss
trim_links x y ((LastLink p, MoreLinks q e r) ∷ ss) = None
trim_links x y ((MoreLinks p e r, k) ∷ ss) = None

-- the last of some shapes, and the empty node without any
abbrev pub last_shape : Shape → List Shape → Shape
last_shape s [] = s
last_shape s (t ∷ ts) = last_shape t ts

-- one thing where a top loses its only key, another else
abbrev pub single_shape : {A : Type 0} → List ℕ → Shape → (Option (List ℕ) → Option (List ℕ) → A) → A → A
single_shape key (LastLink l) x y = y
single_shape key (MoreLinks l e (LastLink k)) x y = if_equal (order e.0 key) (x l k) y
single_shape key (MoreLinks l e (MoreLinks k f r)) x y = y

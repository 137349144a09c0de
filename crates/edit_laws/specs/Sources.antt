-- Look-ups, walks and what a delete reads over a source of blocks, which shows the node with a CID, where it has it. Each function is
-- what a loop reads, also where a block is missing.
use Rattle.std.specs.Prelude.{◌≡◌, ℕ, zero, suc, List, [], ◌∷◌, ◌++◌, Option, Some, None, Result, Ok, Err, option_and_then}
use Rattle.std.specs.declared.cmp.Ordering.{Ordering}
use Rattle.std.specs.declared.cmp.Ordering.TheVariants.{Less, Equal, Greater}
use Rattle.spec.specs.Tree.{Pair, Part, EachNode}
use Rattle.spec.specs.NodeFormat.{Entry, NodeFault, read_node, Shape, LastLink, MoreLinks, first_link, shape, shape_cid}
use Rattle.edit_laws.specs.Order.{order}
use Rattle.edit_laws.specs.ShapeEdit.{last_link, links_beside}
use Rattle.edit_laws.specs.PathEdit.{lowest_shape, prune_link}

-- the node behind a link
abbrev pub shown : (List ℕ → Option Shape) → Option (List ℕ) → Option Shape
shown shows None = None
shown shows (Some c) = shows c

-- each node of a part is shown under its CID
abbrev pub Holds : (List ℕ → List ℕ) → (List ℕ → Option Shape) → Part → Type 0
Holds digest shows p = EachNode (λ m. shows (shape_cid digest (shape digest m)) ≡ Some (shape digest m)) p

-- ---- a source of bytes

-- the shape of a left link and entries, as a node's reader answers them
abbrev pub shape_from : Option (List ℕ) → List Entry → Shape
shape_from left [] = LastLink left
shape_from left (e ∷ es) = MoreLinks left (e.key, e.value) (shape_from e.tree es)

abbrev pub shape_of_reading : Result (Option (List ℕ) × List Entry) NodeFault → Option Shape
shape_of_reading (Ok r) = Some (shape_from r.0 r.1)
shape_of_reading (Err f) = None

abbrev pub shape_of_bytes : List ℕ → Option Shape
shape_of_bytes bytes = shape_of_reading (read_node bytes)

-- what a source of blocks by CID shows: the node of a block that reads as one
abbrev pub shown_by : (List ℕ → Option (List ℕ)) → List ℕ → Option Shape
shown_by gives c = option_and_then shape_of_bytes (gives c)

-- what the first source gives, the second gives too
abbrev pub Extends : (List ℕ → Option (List ℕ)) → (List ℕ → Option (List ℕ)) → Type 0
Extends gives more = (c b : List ℕ) → gives c ≡ Some b → more c ≡ Some b

-- ---- a step of a look-up

abbrev pub gap_at : Ordering → Option (List ℕ) → Option (List ℕ) → Option (List ℕ)
gap_at Less l further = further
gap_at Equal l further = None
gap_at Greater l further = l

-- the link below which a key lies, and none where the node has the key or there is no subtree
abbrev pub gap : List ℕ → Shape → Option (List ℕ)
gap key (LastLink l) = l
gap key (MoreLinks l e r) = gap_at (order e.0 key) l (gap key r)

abbrev pub entry_value_at : Ordering → Pair → Option (List ℕ) → Option (List ℕ)
entry_value_at Less e further = further
entry_value_at Equal e further = Some e.1
entry_value_at Greater e further = None

-- the value of a key that the node has
abbrev pub entry_value : List ℕ → Shape → Option (List ℕ)
entry_value key (LastLink l) = None
entry_value key (MoreLinks l e r) = entry_value_at (order e.0 key) e (entry_value key r)

-- ---- the path of a key

abbrev pub path_at : (Option (List ℕ) → List Shape) → List ℕ → Option Shape → List Shape
path_at further key None = []
path_at further key (Some s) = s ∷ further (gap key s)

-- the nodes read for a key from a link on, the top first, and n at most
abbrev pub path_from : (List ℕ → Option Shape) → ℕ → List ℕ → Option (List ℕ) → List Shape
path_from shows zero key l = []
path_from shows (suc n) key l = path_at (path_from shows n key) key (shown shows l)

abbrev pub or_deeper : Option (List ℕ) → Option (List ℕ) → Option (List ℕ)
or_deeper None deeper = deeper
or_deeper (Some v) deeper = Some v

abbrev pub value_at : (Option (List ℕ) → Option (List ℕ)) → List ℕ → Option Shape → Option (List ℕ)
value_at further key None = None
value_at further key (Some s) = or_deeper (entry_value key s) (further (gap key s))

-- the value of a key, over these nodes
abbrev pub value_from : (List ℕ → Option Shape) → ℕ → List ℕ → Option (List ℕ) → Option (List ℕ)
value_from shows zero key l = None
value_from shows (suc n) key l = value_at (value_from shows n key) key (shown shows l)

-- ---- what a delete reads beside the path

abbrev pub seam_at : (Option (List ℕ) → Option (List ℕ) → List (Shape × Shape)) → Option Shape → Option Shape
    → List (Shape × Shape)
seam_at further None t = []
seam_at further (Some s) None = []
seam_at further (Some s) (Some t) = (s, t) ∷ further (last_link s) (first_link t)

-- the pairs of nodes that meet between two links, from the top down, until one of the links is none
abbrev pub seam_from : (List ℕ → Option Shape) → ℕ → Option (List ℕ) → Option (List ℕ) → List (Shape × Shape)
seam_from shows zero x y = []
seam_from shows (suc n) x y = seam_at (seam_from shows n) (shown shows x) (shown shows y)

abbrev pub pruned_at : (Option (List ℕ) → List Shape) → Option Shape → List Shape
pruned_at further None = []
pruned_at further (Some (LastLink l)) = LastLink l ∷ further l
pruned_at further (Some (MoreLinks l e r)) = MoreLinks l e r ∷ []

-- nodes without keys from a link down, and the first one with a key
abbrev pub pruned_from : (List ℕ → Option Shape) → ℕ → Option (List ℕ) → List Shape
pruned_from shows zero l = []
pruned_from shows (suc n) l = pruned_at (pruned_from shows n) (shown shows l)

-- what a delete reads where the last node of the path has the key: the pairs that meet there, and the chain that is
-- pruned
abbrev pub delete_seam_from : (List ℕ → Option Shape) → ℕ → List ℕ → List Shape → List (Shape × Shape)
delete_seam_from shows n key path = let x = links_beside key (lowest_shape path) in seam_from shows n x.0 x.1

abbrev pub delete_pruned_from : (List ℕ → Option Shape) → ℕ → List ℕ → List Shape → List (Shape × Shape) → List Shape
delete_pruned_from shows n key path seam = pruned_from shows n (prune_link key path seam)

-- ---- walks, with a stack of pairs still to come, each with the rest of its node after it

abbrev pub start_at : Ordering → Option (List ℕ) → Pair → Shape → Shape → Shape
start_at Less l e r further = further
start_at Equal l e r further = MoreLinks None e r
start_at Greater l e r further = MoreLinks l e r

-- a node from the first pair on that isn't below a key, without the link before the key's own pair
abbrev pub start_shape : List ℕ → Shape → Shape
start_shape from (LastLink l) = LastLink l
start_shape from (MoreLinks l e r) = start_at (order e.0 from) l e r (start_shape from r)

-- the pairs of a node are still to come
abbrev pub later_shape : Shape → List (Pair × Shape) → List (Pair × Shape)
later_shape (LastLink l) stack = stack
later_shape (MoreLinks l e r) stack = (e, r) ∷ stack

-- where a block is missing the walk ends
abbrev pub down_at : (Option (List ℕ) → List (Pair × Shape) → List (Pair × Shape)) → List ℕ → Option (List ℕ)
    → Option Shape → List (Pair × Shape) → List (Pair × Shape)
down_at further from None o stack = stack
down_at further from (Some c) None stack = []
down_at further from (Some c) (Some s) stack =
    let h = start_shape from s in further (first_link h) (later_shape h stack)

-- the stack at the first pair from a link on that isn't below a key, over at most n nodes: those of path_from
abbrev pub down_from : (List ℕ → Option Shape) → ℕ → List ℕ → Option (List ℕ) → List (Pair × Shape)
    → List (Pair × Shape)
down_from shows zero from l stack = stack
down_from shows (suc n) from l stack = down_at (down_from shows n from) from l (shown shows l) stack

abbrev pub next_from : (Option (List ℕ) → List (Pair × Shape) → List Pair) → List (Pair × Shape) → List Pair
next_from further [] = []
next_from further (x ∷ xs) = x.0 ∷ further (first_link x.1) (later_shape x.1 xs)

-- at most so many pairs from a key on: down to the first, which is given; from the link after it down to the next
abbrev pub walk_from : (List ℕ → Option Shape) → ℕ → ℕ → List ℕ → Option (List ℕ) → List (Pair × Shape) → List Pair
walk_from shows zero n from l stack = []
walk_from shows (suc limit) n from l stack = next_from (walk_from shows limit n from) (down_from shows n from l stack)

abbrev pub next_path : (Option (List ℕ) → List (Pair × Shape) → List Shape) → List (Pair × Shape) → List Shape
next_path further [] = []
next_path further (x ∷ xs) = further (first_link x.1) (later_shape x.1 xs)

-- the nodes read by it
abbrev pub walk_path : (List ℕ → Option Shape) → ℕ → ℕ → List ℕ → Option (List ℕ) → List (Pair × Shape) → List Shape
walk_path shows zero n from l stack = []
walk_path shows (suc limit) n from l stack =
    path_from shows n from l ++ next_path (walk_path shows limit n from) (down_from shows n from l stack)

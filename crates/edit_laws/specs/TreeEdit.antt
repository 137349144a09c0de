-- A tree along one path: where a key belongs, its value, and the pruning of the top.
use Rattle.std.specs.Prelude.{ℕ, List, [], ◌∷◌, zero, suc}
use Rattle.std.specs.declared.cmp.Ordering.{Ordering}
use Rattle.std.specs.declared.cmp.Ordering.TheVariants.{Less, Equal, Greater}
use Rattle.std.specs.declared.option.Option.{Option}
use Rattle.std.specs.declared.option.Option.TheVariants.{Some, None}
use Rattle.edit_laws.specs.Order.{order}
use Rattle.spec.specs.Tree.{Pair, Node, Part, Last, More, Nothing, Sub}

abbrev pub first : Node → Part
first (Last p) = p
first (More p e r) = p

abbrev pub with_first : Part → Node → Node
with_first q (Last p) = Last q
with_first q (More p e r) = More q e r

-- subtrees and keys, and then a node's own
abbrev pub onto : List (Part × Pair) → Node → Node
onto [] m = m
onto (x ∷ xs) m = More x.0 x.1 (onto xs m)

-- where a key belongs in a node: what stands before, and what is left, which begins with the part next to the key
pub record Place : Type 0 where
  pub before : List (Part × Pair)
  pub here : Node

abbrev pub further : Ordering → Part → Pair → Node → Place → Place
further Less p e r q = record { before = (p, e) ∷ q.before; here = q.here }
further Equal p e r q = record { before = []; here = More p e r }
further Greater p e r q = record { before = []; here = More p e r }

abbrev pub locate : List ℕ → Node → Place
locate key (Last p) = record { before = []; here = Last p }
locate key (More p e r) = further (order e.0 key) p e r (locate key r)

-- a node as a part: one without keys and without a subtree is nothing
abbrev pub close : Node → Part
close (Last Nothing) = Nothing
close (Last (Sub m)) = Sub (Last (Sub m))
close (More p e r) = Sub (More p e r)

-- a part as a node: nothing is a node without keys
abbrev pub open_part : Part → Node
open_part Nothing = Last Nothing
open_part (Sub m) = m

-- the layer of a top node, whose keys are of it; 0 for the node without keys
abbrev pub layer_of : (List ℕ → ℕ) → Node → ℕ
layer_of layer (Last p) = 0
layer_of layer (More p e r) = layer e.0

-- ---- a look-up

abbrev pub value_here : Ordering → Pair → Option (List ℕ) → Option (List ℕ)
value_here Less e deeper = deeper
value_here Equal e deeper = Some e.1
value_here Greater e deeper = deeper

abbrev pub answer : List ℕ → Option (List ℕ) → Node → Option (List ℕ)
answer key deeper (Last p) = deeper
answer key deeper (More p e r) = value_here (order e.0 key) e deeper

-- the value of a key in a part of the layers below n
abbrev pub find : ℕ → List ℕ → Part → Option (List ℕ)
find zero key p = None
find (suc n) key Nothing = None
find (suc n) key (Sub m) =
    let here = (locate key m).here in
    answer key (find n key (first here)) here

-- ---- pruning

-- a top without keys gives way to its one subtree
abbrev pub prune : ℕ → Node → Node
prune zero m = m
prune (suc n) (Last Nothing) = Last Nothing
prune (suc n) (Last (Sub m)) = prune n m
prune (suc n) (More p e r) = More p e r

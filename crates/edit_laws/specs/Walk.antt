-- A walk over a tree: its pairs in order from a key on, as many as are wanted, and the nodes that are read for them.
-- Each step is one of a loop with a stack, which holds the pairs still to come on the way back up.
use Rattle.std.specs.Prelude.{ℕ, zero, suc, Bool, true, ◌&&◌, List, [], ◌∷◌, ◌++◌, map, filter, Option, Some, None}
use Rattle.std.specs.Cmp.Lexicographic.{slice_cmp}
use Rattle.std.specs.Ordering.{nat_cmp, is_lt}
use Rattle.spec.specs.Tree.{Pair, Node, Part, Last, More, Nothing, Sub}
use Rattle.edit_laws.specs.Order.{order, if_equal}
use Rattle.edit_laws.specs.TreeEdit.{first, locate}
use Rattle.edit_laws.specs.Trace.{find_path}

-- what is left of a node for a walk from a key on: the subtree before the key's own pair holds no later keys
abbrev pub from_here : List ℕ → Node → Node
from_here from (Last p) = Last p
from_here from (More p e r) = More (if_equal (order e.0 from) Nothing p) e r

-- a node from the first pair on that isn't below a key, with the subtree before that pair
abbrev pub start : List ℕ → Node → Node
start from m = from_here from (locate from m).here

-- a pair still to come, and the rest of its node after it
abbrev pub Frame : Type 0
Frame = Pair × Node

-- the pairs of a node are still to come, but for its first subtree
abbrev pub later : Node → List Frame → List Frame
later (Last p) stack = stack
later (More p e r) stack = (e, r) ∷ stack

-- down to the first pair of a part that isn't below a key, over at most n nodes
abbrev pub go_down : ℕ → List ℕ → Part → List Frame → List Frame
go_down zero from p stack = stack
go_down (suc n) from Nothing stack = stack
go_down (suc n) from (Sub m) stack = let h = start from m in go_down n from (first h) (later h stack)

-- the next pair, and how to go on from the part after it
abbrev pub next : (Part → List Frame → List Pair) → List Frame → List Pair
next further [] = []
next further (x ∷ xs) = x.0 ∷ further (first x.1) (later x.1 xs)

-- the first so many pairs from a key on, of a part and then of a stack, over at most n layers of nodes
abbrev pub walk : ℕ → ℕ → List ℕ → Part → List Frame → List Pair
walk zero n from p stack = []
walk (suc limit) n from p stack = next (walk limit n from) (go_down n from p stack)

abbrev pub next_reads : (Part → List Frame → List Node) → List Frame → List Node
next_reads further [] = []
next_reads further (x ∷ xs) = further (first x.1) (later x.1 xs)

-- the nodes read: on each way down those that a look-up of the key reads there
abbrev pub walk_reads : ℕ → ℕ → List ℕ → Part → List Frame → List Node
walk_reads zero n from p stack = []
walk_reads (suc limit) n from p stack =
    find_path n from p ++ next_reads (walk_reads limit n from) (go_down n from p stack)

-- ---- which nodes these are

-- a node with the open range of its keys: above the one key and below the other, where there is one
pub record Ranged : Type 0 where
  pub node : Node
  pub above : Option (List ℕ)
  pub under : Option (List ℕ)

-- all nodes of a part, each before those below it
abbrev mutual
  pub ranged_in : Option (List ℕ) → Option (List ℕ) → Part → List Ranged
  ranged_in a b Nothing = []
  ranged_in a b (Sub m) = record { node = m; above = a; under = b } ∷ ranged_under a b m

  pub ranged_under : Option (List ℕ) → Option (List ℕ) → Node → List Ranged
  ranged_under a b (Last p) = ranged_in a b p
  ranged_under a b (More p e r) = ranged_in a (Some e.0) p ++ ranged_under (Some e.0) b r

abbrev pub is_above : Option (List ℕ) → List ℕ → Bool
is_above None key = true
is_above (Some a) key = is_lt (slice_cmp nat_cmp a key)

abbrev pub is_under : Option (List ℕ) → List ℕ → Bool
is_under None key = true
is_under (Some b) key = is_lt (slice_cmp nat_cmp key b)

-- the open range meets the closed one from a key to another
abbrev pub meets : List ℕ → List ℕ → Ranged → Bool
meets from last x = is_above x.above last && is_under x.under from

-- the nodes of a tree whose open range of keys meets the range from a key to another
abbrev pub nodes_meeting : List ℕ → List ℕ → Part → List Node
nodes_meeting from last p = map (λ (x : Ranged). x.node) (filter (meets from last) (ranged_in None None p))

-- the key of the last pair, and another one where there is none
abbrev pub last_key : List ℕ → List Pair → List ℕ
last_key key [] = key
last_key key (e ∷ es) = last_key e.0 es

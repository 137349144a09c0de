-- What a walk gives and reads, and its stack.
use Rattle.std.specs.Prelude.{◌≤◌, ℕ, zero, suc, ◌+◌, Bool, true, List, [], ◌∷◌, ◌++◌, map, Option}
use Rattle.std.specs.Cmp.Lexicographic.{slice_cmp}
use Rattle.std.specs.Ordering.{nat_cmp, is_lt}
use Rattle.std.specs.declared.vec.Vec.{Vec}
use Rattle.cid.specs.CidRef.{bytes_of}
use Rattle.spec.specs.Layer.{layer}
use Rattle.spec.specs.Tree.{Pair, Node, Sub, top}
use Rattle.spec.specs.NodeFormat.{Shape, first_link}
use Rattle.spec.specs.Blocks.{listed}
use Rattle.edit_laws.specs.Walk.{nodes_meeting, last_key}
use Rattle.edit_laws.specs.Pairs.{Ascending}
use Rattle.edit_laws.specs.Sources.{later_shape, down_from, walk_from}
use Rattle.lookups.specs.Steps.{asked_from}
use Rattle.lookups.specs.declared.walks.Frame.{Frame}

-- The nodes that a walk reads: those whose open range of keys meets the range from a key to that of the last pair given,
-- or to the key itself where none is; none where none is asked for.
abbrev pub nodes_walked : (List ℕ → List ℕ) → ℕ → List ℕ → ℕ → List Pair → List Node
nodes_walked digest bits from zero es = []
nodes_walked digest bits from (suc n) es =
    nodes_meeting from (last_key from (listed from (suc n) es)) (Sub (top (layer digest bits) es))

-- pairs that own their keys
abbrev pub pairs_given : {A : Type 0} → List (Vec ℕ A × List ℕ) → List Pair
pairs_given ps = map (λ p. (p.0.items, p.1)) ps

-- ---- the stack

-- a pair that is still to come, and what is left of its node after it
abbrev pub frame_of : {A : Type 0} → Frame A → Pair × Shape
frame_of f = ((f.rest.before, bytes_of f.value), f.rest.rest)

-- the pairs that are still to come, the next one first
abbrev pub stacked : {A : Type 0} → List (Frame A) → List (Pair × Shape)
stacked [] = []
stacked (f ∷ fs) = stacked fs ++ frame_of f ∷ []

-- ---- how many blocks a walk asks for, also where one isn't given

abbrev pub asked_after : (Option (List ℕ) → List (Pair × Shape) → ℕ) → List (Pair × Shape) → ℕ
asked_after further [] = 0
asked_after further (x ∷ xs) = further (first_link x.1) (later_shape x.1 xs)

abbrev pub asked_walk : (List ℕ → Option Shape) → ℕ → ℕ → List ℕ → Option (List ℕ) → List (Pair × Shape) → ℕ
asked_walk shows zero n from l stack = 0
asked_walk shows (suc limit) n from l stack =
    asked_from shows n from l + asked_after (asked_walk shows limit n from) (down_from shows n from l stack)

-- ---- a walk over what may be no tree

-- the key is greater than that of the last pair
abbrev pub is_next : List Pair → List ℕ → Bool
is_next [] key = true
is_next (e ∷ es) key = is_lt (slice_cmp nat_cmp (last_key e.0 es) key)

-- the keys ascend, and the reads suffice: a walk over a tree in enough reads is such
pub record IsPlain (shows : List ℕ → Option Shape) (limit n : ℕ) (from : List ℕ) (l : Option (List ℕ)) (reads : ℕ)
    : Type 0 where
  pub ascends : Ascending (walk_from shows limit n from l [])
  pub enough : asked_walk shows limit n from l [] ≤ reads

-- What a source lacks of the first layer of two trees that isn't all there.
use Rattle.std.specs.Prelude.{◌≡◌, ◌≢◌, ◌⊎◌, Contains, ℕ, zero, suc, ◌+◌, ◌*◌, max, Bool, true, false, ◌&&◌, nat_eq, List, [], ◌∷◌, ◌++◌, filter, is_none, length, Option, Some, None, Result, Ok, Err, IsSome}
use Rattle.std.specs.declared.sync.Arc.{Arc}
use Rattle.spec.specs.Blocks.{nodes}
use Rattle.spec.specs.Cid.{IsDigest}
use Rattle.spec.specs.Layer.{layer}
use Rattle.spec.specs.NodeFormat.{Shape, shape_bytes}
use Rattle.spec.specs.Tree.{Pair}
use Rattle.edit_laws.specs.Sources.{Extends, shown_by}
use Rattle.lookups.specs.Steps.{nodes_given}
use Rattle.lookups.specs.Trees.{HasTree, bytes_given, top_layer}
use Rattle.difference_laws.specs.Lines.{Side, Stop, NotShown, links_in, shared_when, level, side_at, compared}
use Rattle.difference_laws.specs.Lines as lines
use Rattle.difference.specs.declared.faults.DifferenceFault.{DifferenceFault}
use Rattle.difference.specs.declared.faults.DifferenceFault.TheVariants.{BlockMissing, BadNode, TooDeep, NotTree, NoMemory}

-- ---- what one layer needs

abbrev pub links_when : Bool → Side → List (List ℕ)
links_when true s = links_in s.line
links_when false s = []

abbrev pub both_links : Bool → Bool → Side × Side → List (List ℕ)
both_links p q x = links_when p x.0 ++ links_when q x.1

-- the CIDs of the nodes that `level` reads where n layers are below: the links of whoever stands there, the old side's first,
-- without the links of both
abbrev pub needed_at : ℕ → Side → Side → List (List ℕ)
needed_at n a b =
    let p = nat_eq a.left (suc n) in
    let q = nat_eq b.left (suc n) in
    both_links p q (shared_when (p && q) a b)

-- where n layers are left, the next one needs these; where none is left, nothing
abbrev pub needed_of : ℕ → Side → Side → List (List ℕ)
needed_of zero a b = []
needed_of (suc n) a b = needed_at n a b

-- what two sides need next
abbrev pub needed_by : Side → Side → List (List ℕ)
needed_by a b = needed_of (max a.left b.left) a b

-- ---- how far two trees are opened

-- how many layers are left, and both sides
abbrev pub Place : Type 0
Place = ℕ × Side × Side

abbrev pub further : Place → Result (Side × Side) Stop → (Side × Side → Place) → Place
further x (Ok y) go = go y
further x (Err e) go = x

-- where `levels` ends, or before the layer at which it stops
abbrev pub reached : (List ℕ → Option Shape) → ℕ → Side → Side → Place
reached shows zero a b = (zero, a, b)
reached shows (suc n) a b = further (suc n, a, b) (level shows n a b) (λ x. reached shows n x.0 x.1)

abbrev pub needed_in : Place → List (List ℕ)
needed_in x = needed_of x.0 x.1 x.2

-- ---- from two roots

abbrev pub reached_from : (List ℕ → Option Shape) → Side → Side → Place
reached_from shows a b = reached shows (max a.left b.left) a b

-- both roots are needed first, and then layer after layer
abbrev pub needed_from : (List ℕ → Option Shape) → (List ℕ → ℕ) → List ℕ → List ℕ → Option Shape → Option Shape
    → List (List ℕ)
needed_from shows layer old new None t = old ∷ new ∷ []
needed_from shows layer old new (Some s) None = old ∷ new ∷ []
needed_from shows layer old new (Some s) (Some t) =
    needed_in (reached_from shows (side_at layer old s) (side_at layer new t))

-- what the layer needs at which `compared` stops; nothing where it doesn't
abbrev pub needed_last : (List ℕ → Option Shape) → (List ℕ → ℕ) → List ℕ → List ℕ → List (List ℕ)
needed_last shows layer old new = needed_from shows layer old new (shows old) (shows new)

-- these without those that a source has
abbrev pub lacked : {A : Type 0} → (List ℕ → Option A) → List (List ℕ) → List (List ℕ)
lacked gives cs = filter (λ c. is_none (gives c)) cs

-- the CIDs that a source lacks of the layer at which opening stops
abbrev pub missing_by : (List ℕ → Option (List ℕ)) → (List ℕ → ℕ) → List ℕ → List ℕ → List (List ℕ)
missing_by gives layer old new = lacked gives (needed_last (shown_by gives) layer old new)

abbrev pub missing_of : {A : Type 0} → (List ℕ → Option (Arc (List ℕ) A)) → (List ℕ → ℕ) → List ℕ → List ℕ → List (List ℕ)
missing_of gives layer old new = missing_by (bytes_given gives) layer old new

-- ---- how much is read

abbrev pub read_in : Place → ℕ
read_in x = max 1 (length x.1.read) + max 1 (length x.2.read)

abbrev pub read_from : (List ℕ → Option Shape) → (List ℕ → ℕ) → List ℕ → List ℕ → Option Shape → Option Shape → ℕ
read_from shows layer old new None t = 0
read_from shows layer old new (Some s) None = 0
read_from shows layer old new (Some s) (Some t) = read_in (reached_from shows (side_at layer old s) (side_at layer new t))

-- how many blocks are read before that layer, each once, or in all where opening doesn't stop
abbrev pub read_before : (List ℕ → Option Shape) → (List ℕ → ℕ) → List ℕ → List ℕ → ℕ
read_before shows layer old new = read_from shows layer old new (shows old) (shows new)

-- the most that is read until opening stops: that layer's as well
abbrev pub most_read : (List ℕ → Option Shape) → (List ℕ → ℕ) → List ℕ → List ℕ → ℕ
most_read shows layer old new = read_before shows layer old new + length (needed_last shows layer old new)

-- ---- what is answered

-- P holds where a block is missing
abbrev pub IfMissing : DifferenceFault → Type 0 → Type 0
IfMissing (BlockMissing c) P = P
IfMissing (BadNode c) P = Unit {0}
IfMissing TooDeep P = Unit {0}
IfMissing NotTree P = Unit {0}
IfMissing NoMemory P = Unit {0}

-- a list that is empty just where opening doesn't stop; where it has a first CID, opening stops there for want of that block
abbrev pub IsTelling : {A : Type 0} → (List ℕ → Option A) → Result (Side × Side) Stop → List (List ℕ) → Type 0
IsTelling gives step [] = (x : Side × Side) × (step ≡ Ok x)
IsTelling gives step (c ∷ cs) = (gives c ≡ None) × (step ≡ Err (NotShown c))

-- why there is no such list: a block is no node, a link stands twice on one layer, or memory was wanted
abbrev pub IsOtherStop : {A : Type 0} → (List ℕ → Option A) → Result (Side × Side) Stop → DifferenceFault → Type 0
IsOtherStop gives step (BlockMissing c) = ⊥
IsOtherStop gives step (BadNode c) = IsSome (gives c) × (step ≡ Err (NotShown c))
IsOtherStop gives step TooDeep = ⊥
IsOtherStop gives step NotTree = step ≡ Err lines.NotTree
IsOtherStop gives step NoMemory = Unit {0}

module _ {A : Type 0} (digest : List ℕ → List ℕ) (bits : ℕ) (gives : List ℕ → Option (Arc (List ℕ) A)) (old new : List ℕ) where
  -- just what the source lacks of the first layer that isn't all there
  abbrev pub IsMissing : List (List ℕ) → Type 0
  IsMissing cids = old ≢ new → cids ≡ missing_of gives (layer digest bits) old new

  abbrev pub IsMissingTold : List (List ℕ) → Type 0
  IsMissingTold cids = old ≢ new → IsTelling gives (compared (nodes_given gives) (layer digest bits) old new) cids

  abbrev pub IsMissingFault : DifferenceFault → Type 0
  IsMissingFault fault = IsOtherStop gives (compared (nodes_given gives) (layer digest bits) old new) fault

  -- how often it asks at most: each block of the layers above once, and of that layer twice
  abbrev pub most_asked : ℕ
  most_asked = read_before (nodes_given gives) (layer digest bits) old new
      + 2 * length (needed_last (nodes_given gives) (layer digest bits) old new)

-- ---- of a part of two trees

-- P holds of whatever pairs the trees with these roots have in a whole source of which this one gives a part
abbrev pub OfPart : {A : Type 0} → (List ℕ → List ℕ) → ℕ → (List ℕ → Option (Arc (List ℕ) A)) → List ℕ → List ℕ
    → ((List ℕ → Option (List ℕ)) → List Pair → List Pair → Type 0) → Type 0
OfPart digest bits gives old new P = (whole : List ℕ → Option (List ℕ)) → Extends (bytes_given gives) whole
    → (es fs : List Pair) → HasTree digest bits whole old es → HasTree digest bits whole new fs → P whole es fs

-- a node of just one of two trees
abbrev pub IsOfOneTree : (List ℕ → List ℕ) → ℕ → List Pair → List Pair → List ℕ → Type 0
IsOfOneTree digest bits es fs b = (Contains (nodes digest bits es) b × ¬ Contains (nodes digest bits fs) b)
    ⊎ (Contains (nodes digest bits fs) b × ¬ Contains (nodes digest bits es) b)

-- the CIDs are roots, or of nodes of just one of both trees
abbrev pub AreOfOneTree : (List ℕ → List ℕ) → ℕ → (List ℕ → Option (List ℕ)) → List ℕ → List ℕ → List Pair → List Pair
    → List (List ℕ) → Type 0
AreOfOneTree digest bits whole old new es fs cids = (c : List ℕ) → Contains cids c → (c ≡ old) ⊎ ((c ≡ new)
    ⊎ ((m : Shape) × ((shown_by whole c ≡ Some m) × IsOfOneTree digest bits es fs (shape_bytes m))))

-- ---- a layer a round

-- Sources of which each has what the one before has, and what that one lacks of the first layer that isn't all there, as a
-- whole source has it.
pub record AreRounds (digest : List ℕ → List ℕ) (bits : ℕ) (whole : List ℕ → Option (List ℕ)) (old new : List ℕ)
    (sources : ℕ → List ℕ → Option (List ℕ)) : Type 0 where
  pub grow : (i : ℕ) → Extends (sources i) (sources (suc i))
  pub parts : (i : ℕ) → Extends (sources i) whole
  pub fetched : (i : ℕ) (c : List ℕ)
      → Contains (missing_by (sources i) (layer digest bits) old new) c → sources (suc i) c ≡ whole c

-- how many layers the higher of two trees has
abbrev pub layers_of : (List ℕ → List ℕ) → ℕ → List Pair → List Pair → ℕ
layers_of digest bits es fs = suc (max (top_layer digest bits es) (top_layer digest bits fs))

-- nothing is lacked after as many rounds as there are layers
abbrev pub RoundsEnd : Type 0
RoundsEnd = (digest : List ℕ → List ℕ) (bits : ℕ) → IsDigest digest → (whole : List ℕ → Option (List ℕ))
    → (old new : List ℕ) (es fs : List Pair) → HasTree digest bits whole old es → HasTree digest bits whole new fs
    → (sources : ℕ → List ℕ → Option (List ℕ)) → AreRounds digest bits whole old new sources
    → missing_by (sources (layers_of digest bits es fs)) (layer digest bits) old new ≡ []

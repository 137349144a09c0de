-- Nodes that are written anew, and when one can't be written.
use Rattle.std.specs.Prelude.{◌≡◌, ⊤, ℕ, Bool, true, false, List, [], ◌∷◌, ◌++◌, map, Option, Some, None}
use Rattle.std.specs.Arc.{arc_value}
use Rattle.std.specs.List.{AllByRecursion}
use Rattle.std.specs.declared.sync.Arc.{Arc}
use Rattle.std.specs.declared.vec.Vec.{Vec}
use Rattle.cid.specs.CidRef.{bytes_of}
use Rattle.cid.specs.declared.cid_ref.CidRef.{CidRef}
use Rattle.spec.specs.Tree.{Pair}
use Rattle.spec.specs.NodeFormat.{Shape, LastLink, MoreLinks, shape_bytes}
use Rattle.edit_laws.specs.Lawful.{Lawful, HasKeys}
use Rattle.edit_laws.specs.Sources.{shape_of_bytes}
use Rattle.rows.specs.declared.draft.DraftFault.{DraftFault}
use Rattle.rows.specs.declared.draft.DraftFault.TheVariants.{NotNode, NoMemory}

-- a node without keys and links
abbrev pub is_empty_node : Shape → Bool
is_empty_node (LastLink None) = true
is_empty_node (LastLink (Some c)) = false
is_empty_node (MoreLinks l e r) = false

-- links and pairs in turn, and then a node
abbrev pub onto : List (Option (List ℕ) × Pair) → Shape → Shape
onto [] s = s
onto (x ∷ xs) s = MoreLinks x.0 x.1 (onto xs s)

-- all pairs, each with the link before it
abbrev pub all_pairs : Shape → List (Option (List ℕ) × Pair)
all_pairs (LastLink l) = []
all_pairs (MoreLinks l e r) = (l, e) ∷ all_pairs r

-- a node was not written, and its keys are none of the grammar; of a want of memory nothing is said
abbrev pub IsFaultOf : Shape → DraftFault → Type 0
IsFaultOf s NotNode = ¬ HasKeys s
IsFaultOf s NoMemory = ⊤

-- no node that goes on so has keys of the grammar
abbrev pub IsFaultOfAll : List (Option (List ℕ) × Pair) → DraftFault → Type 0
IsFaultOfAll xs f = (s : Shape) → IsFaultOf (onto xs s) f

-- ---- nodes by their bytes

abbrev pub or_empty : Option Shape → Shape
or_empty None = LastLink None
or_empty (Some s) = s

-- the node with these bytes
unfoldable pub shape_in : List ℕ → Shape
shape_in bytes = or_empty (shape_of_bytes bytes)

-- these are the bytes of a node of the grammar, and whether it is is_empty
pub record IsDraft (bytes : List ℕ) (is_empty : Bool) : Type 0 where
  pub lawful : Lawful (shape_in bytes)
  pub spelled : bytes ≡ shape_bytes (shape_in bytes)
  pub empty : is_empty ≡ is_empty_node (shape_in bytes)

-- bytes that are a node's
abbrev pub IsSpelled : List ℕ → Type 0
IsSpelled bytes = bytes ≡ shape_bytes (shape_in bytes)

-- each of these blocks is one
abbrev pub AreSpelled : {A : Type 0} → List (Arc (List ℕ) A) → Type 0
AreSpelled blocks = map arc_value blocks ≡ map shape_bytes (map (λ b. shape_in (arc_value b)) blocks)

-- each of them has keys of the grammar
abbrev pub HaveKeys : {A : Type 0} → List (Arc (List ℕ) A) → Type 0
HaveKeys blocks = AllByRecursion HasKeys (map (λ b. shape_in (arc_value b)) blocks)

-- each of these blocks is a node's, with keys of the grammar
pub record AreNodes {A : Type 0} (blocks : List (Arc (List ℕ) A)) : Type 0 where
  pub spelled : AreSpelled blocks
  pub keys : HaveKeys blocks

-- a lent key and a lent value
abbrev pub pair_of : List ℕ → CidRef → Pair
pair_of key value = (key, bytes_of value)

-- ---- what is answered

-- it is this node
abbrev pub IsNode : Shape → Shape → Type 0
IsNode wanted = λ node. node ≡ wanted

-- the blocks of these nodes came to those that were made
abbrev pub Adds : {A B : Type 0} → Vec (Arc (List ℕ) A) B → Vec (Arc (List ℕ) A) B → List Shape → Type 0
Adds old new nodes = map arc_value new.items ≡ map arc_value old.items ++ map shape_bytes nodes

-- Each node has one spelling, and each spelling one node.
use Rattle.std.specs.Prelude.{◌≡◌, ℕ, true, List, [], ◌∷◌, codes, pos, Option, Some, None, Ok}
use Rattle.spec.specs.Reading.{IsBytes}
use Rattle.spec.specs.Cid.{IsDigest}
use Rattle.spec.specs.Tree.{Pair, Node, Sub, top, EachNode}
use Rattle.spec.specs.DagCbor.{Value, Null, Bytes, Integer, Items, Fields, Link, Values, NoValue, ValueThen, NoEntry, EntryThen, spelling, is_lawful}
use Rattle.spec.specs.NodeFormat.{Entry, common, suffix_after, node_spelling, is_node, read_node, shape, first_link, entries_of}
use Rattle.spec.specs.Blocks.{ArePairs}

-- the spelling of a node of the grammar reads as that node
abbrev pub NodeReadsBack : Type 0
NodeReadsBack = (left : Option (List ℕ)) (es : List Entry) → is_node left es ≡ true → read_node (node_spelling left es) ≡ Ok (left, es)

-- what is read is the spelling of a node of the grammar
abbrev pub OnlySpellingsAreRead : Type 0
OnlySpellingsAreRead = (bytes : List ℕ) (left : Option (List ℕ)) (es : List Entry) → IsBytes bytes → read_node bytes ≡ Ok (left, es) → (bytes ≡ node_spelling left es) × (is_node left es ≡ true)

-- two nodes of the grammar with one spelling are one
abbrev pub NoTwoNodesAreSpelledAlike : Type 0
NoTwoNodesAreSpelledAlike = (left other : Option (List ℕ)) (es fs : List Entry) → is_node left es ≡ true → is_node other fs ≡ true → node_spelling left es ≡ node_spelling other fs → (left ≡ other) × (es ≡ fs)

-- ---- the value that a node's bytes spell (AT Protocol repository v3, MST node data format)

-- a link, or null where there is none
abbrev pub value_of_link : Option (List ℕ) → Value
value_of_link None = Null
value_of_link (Some c) = Link c

-- k, p, t and v of an entry after the key before it
abbrev pub value_of_entry : List ℕ → Entry → Value
value_of_entry before e =
    Fields (EntryThen (codes "k") (Bytes (suffix_after before e.key)) (EntryThen (codes "p") (Integer (pos (common before e.key)))
    (EntryThen (codes "t") (value_of_link e.tree) (EntryThen (codes "v") (Link e.value) NoEntry))))

-- the entries, the first after the key before
abbrev pub values_of_entries : List ℕ → List Entry → Values
values_of_entries before [] = NoValue
values_of_entries before (e ∷ es) = ValueThen (value_of_entry before e) (values_of_entries e.key es)

-- e and l of a node
abbrev pub value_of_node : Option (List ℕ) → List Entry → Value
value_of_node left es = Fields (EntryThen (codes "e") (Items (values_of_entries [] es)) (EntryThen (codes "l") (value_of_link left) NoEntry))

-- a node is spelled in DAG-CBOR
abbrev pub NodeIsDagCbor : Type 0
NodeIsDagCbor = (left : Option (List ℕ)) (es : List Entry) → is_node left es ≡ true → (node_spelling left es ≡ spelling (value_of_node left es)) × (is_lawful (value_of_node left es) ≡ true)

-- ---- the nodes of a tree

-- a node of a tree, seen by its links and pairs, is of the grammar
abbrev pub IsLawful : (List ℕ → List ℕ) → Node → Type 0
IsLawful digest m = is_node (first_link (shape digest m)) (entries_of (shape digest m)) ≡ true

-- each node of the tree of some pairs is of the grammar
abbrev pub TreesHaveLawfulNodes : Type 0
TreesHaveLawfulNodes = (digest : List ℕ → List ℕ) (layer : List ℕ → ℕ) (es : List Pair) → IsDigest digest → ArePairs es → EachNode (IsLawful digest) (Sub (top layer es))

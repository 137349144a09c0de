-- The bytes of a tree's node (AT Protocol repository v3, MST node data format).
use Rattle.std.specs.Prelude.{ℕ, zero, suc, ◌+◌, ◌^◌, Bool, true, ◌&&◌, not, List, [], ◌∷◌, ◌++◌, length, take, drop, slice_index, nat_lt, nat_le, ◌==◌, if◌then◌else◌, Option, Some, None, Result, Ok, Err}
use Rattle.std.specs.Str.{bytes_eq}
use Rattle.std.specs.Cmp.Lexicographic.{slice_cmp}
use Rattle.std.specs.Ordering.{nat_cmp, is_lt}
use Rattle.std.specs.List.{list_all}
use Rattle.std.specs.FinMap.{is_sorted}
use Rattle.spec.specs.Reading.{◌>>=◌, ensure, front}
use Rattle.spec.specs.Head.{head, head_at, CborFault}
use Rattle.spec.specs.Cid.{prefix, cid, is_own_cid, link}
use Rattle.spec.specs.Tree.{Pair, Node, Last, More, Part, Nothing, Sub}

-- one entry: the whole key, the record's CID, and the CID of the subtree after it
pub record Entry : Type 0 where
  pub key : List ℕ
  pub value : List ℕ
  pub tree : Option (List ℕ)

-- how many bytes two keys have in common from the front on
abbrev pub common : List ℕ → List ℕ → ℕ
common [] ys = 0
common (x ∷ xs) [] = 0
common (x ∷ xs) (y ∷ ys) = if x == y then suc (common xs ys) else 0

-- a link to a subtree, or null where there is none
abbrev pub link_or_null : Option (List ℕ) → List ℕ
link_or_null None = 0xf6 ∷ []
link_or_null (Some c) = link c

-- the key without what it has in common with the key before
abbrev pub suffix_after : List ℕ → List ℕ → List ℕ
suffix_after before key = drop (common before key) key

-- k, the key without its first p bytes; p; t, the subtree after it; v, the record
abbrev pub entry_bytes : List ℕ → Entry → List ℕ
entry_bytes before e =
    let k = suffix_after before e.key in
    (0xa4 ∷ 0x61 ∷ 0x6b ∷ head 2 (length k)) ++ k ++ (0x61 ∷ 0x70 ∷ head 0 (common before e.key))
    ++ (0x61 ∷ 0x74 ∷ link_or_null e.tree) ++ (0x61 ∷ 0x76 ∷ link e.value)

-- the entries, the first after the key before
abbrev pub entries_bytes : List ℕ → List Entry → List ℕ
entries_bytes before [] = []
entries_bytes before (e ∷ es) = entry_bytes before e ++ entries_bytes e.key es

-- e, the entries; l, the subtree before them
abbrev pub node_spelling : Option (List ℕ) → List Entry → List ℕ
node_spelling left es =
    (0xa2 ∷ 0x61 ∷ 0x65 ∷ head 4 (length es)) ++ entries_bytes [] es ++ (0x61 ∷ 0x6c ∷ link_or_null left)

-- ---- the grammar of a node by itself: it knows no tree and no layer

-- 1 to 1,024 bytes (a choice of this project, for a node by itself; a repository's keys are narrower)
abbrev pub is_key : List ℕ → Bool
is_key key = nat_lt 0 (length key) && nat_le (length key) 1024

-- pairs of keys and CIDs whose keys have 1 to 1,024 bytes and ascend strictly
abbrev pub is_ascending : List Pair → Bool
is_ascending es = is_sorted (slice_cmp nat_cmp) es && list_all (λ e. is_key e.0) es

-- keys of 1 to 1,024 bytes that ascend strictly from the key before
abbrev pub are_keys_after : List ℕ → List Entry → Bool
are_keys_after before [] = true
are_keys_after before (e ∷ es) = is_lt (slice_cmp nat_cmp before e.key) && is_key e.key && are_keys_after e.key es

-- no link, or a CID of the host's form
abbrev pub is_own_cid_or_none : Option (List ℕ) → Bool
is_own_cid_or_none None = true
is_own_cid_or_none (Some c) = is_own_cid c

-- each CID of an entry is of the host's form
abbrev pub are_links : List Entry → Bool
are_links [] = true
are_links (e ∷ es) = is_own_cid e.value && is_own_cid_or_none e.tree && are_links es

-- a node of the grammar: entries whose keys ascend, and links of the host's form
abbrev pub is_node : Option (List ℕ) → List Entry → Bool
is_node left es = nat_lt (length es) (2 ^ 64) && are_keys_after [] es && are_links es && is_own_cid_or_none left

-- ---- reading a node, with the first fault (the names and the order are a choice of this project)

-- bytes that are no node in shape; a prefix that is not the greatest common one; keys that don't ascend; a key of no bytes or too many
pub data NodeFault : Type 0 where
  NotNode : NodeFault
  BadPrefix : NodeFault
  KeyOrder : NodeFault
  KeyLength : NodeFault

-- what is read at the front, and the bytes after it
abbrev pub NodeReader : Type 0 → Type 0
NodeReader A = List ℕ → Result (A × List ℕ) NodeFault

-- these very bytes
abbrev pub literal : List ℕ → List ℕ → Result (List ℕ) NodeFault
literal expected bytes = do
  ok ← ensure (bytes_eq (take (length expected) bytes) expected) NotNode
  Ok (drop (length expected) bytes)

-- a head that is none makes no node
abbrev pub or_not_node : {A : Type 0} → Result A CborFault → Result A NodeFault
or_not_node (Ok x) = Ok x
or_not_node (Err f) = Err NotNode

-- the argument of a head of this major type
abbrev pub argument_of : ℕ → NodeReader ℕ
argument_of major bytes = do
  h ← or_not_node (head_at bytes)
  ok ← ensure (h.0.0 == major) NotNode
  Ok (h.0.1, h.1)

-- a link of the host's form
abbrev pub link_at : NodeReader (List ℕ)
link_at bytes = do
  c ← literal (link prefix) bytes
  digest ← front NotNode 32 c
  Ok (prefix ++ digest.0, digest.1)

-- a link that was found is one
abbrev pub some_link : List ℕ × List ℕ → Option (List ℕ) × List ℕ
some_link found = (Some found.0, found.1)

-- null, or such a link
abbrev pub link_or_null_at : NodeReader (Option (List ℕ))
link_or_null_at [] = Err NotNode
link_or_null_at (b ∷ bytes) = if b == 0xf6 then Ok (None, bytes) else link_at (b ∷ bytes) >>= λ found. Ok (some_link found)

-- the tests of an entry that was read whole, against the key before (the first entry's is empty)
abbrev pub whole_key : List ℕ → ℕ → List ℕ → Result (List ℕ) NodeFault
whole_key before p k = do
  prefix_ok ← ensure (nat_le p (length before)) BadPrefix
  length_ok ← ensure (nat_lt 0 (p + length k) && nat_le (p + length k) 1024) KeyLength
  greatest ← ensure (not (nat_lt p (length before) && nat_lt 0 (length k) && (slice_index k 0 == slice_index before p))) BadPrefix
  order_ok ← ensure (nat_lt 0 (length k) && not (nat_lt p (length before) && nat_lt (slice_index k 0) (slice_index before p))) KeyOrder
  Ok (take p before ++ k)

-- an entry, read whole and then tested against the key before
unfoldable pub entry_at : List ℕ → NodeReader Entry
entry_at before bytes = do
  in_k ← literal (0xa4 ∷ 0x61 ∷ 0x6b ∷ []) bytes
  n ← argument_of 2 in_k
  k ← front NotNode n.0 n.1
  in_p ← literal (0x61 ∷ 0x70 ∷ []) k.1
  p ← argument_of 0 in_p
  p_ok ← ensure (nat_lt p.0 (2 ^ 63)) NotNode
  in_t ← literal (0x61 ∷ 0x74 ∷ []) p.1
  t ← link_or_null_at in_t
  in_v ← literal (0x61 ∷ 0x76 ∷ []) t.1
  v ← link_at in_v
  key ← whole_key before p.0 k.0
  Ok (record { key = key; value = v.0; tree = t.0 }, v.1)

-- n entries, the first after the key before
unfoldable pub entries_at : ℕ → List ℕ → NodeReader (List Entry)
entries_at zero before bytes = Ok ([], bytes)
entries_at (suc n) before bytes = do
  e ← entry_at before bytes
  es ← entries_at n e.0.key e.1
  Ok (e.0 ∷ es.0, es.1)

-- all of the bytes: the left link and the entries
unfoldable pub read_node : List ℕ → Result (Option (List ℕ) × List Entry) NodeFault
read_node bytes = do
  in_e ← literal (0xa2 ∷ 0x61 ∷ 0x65 ∷ []) bytes
  n ← argument_of 4 in_e
  es ← entries_at n.0 [] n.1
  in_l ← literal (0x61 ∷ 0x6c ∷ []) es.1
  left ← link_or_null_at in_l
  ended ← ensure (length left.1 == 0) NotNode
  Ok (left.0, es.0)

-- ---- the bytes of a node of a tree: each subtree by the CID of its bytes

-- a node as its block shows it: links and pairs in turn, a link where there is a subtree
pub data Shape : Type 0 where
  LastLink : Option (List ℕ) → Shape
  MoreLinks : Option (List ℕ) → Pair → Shape → Shape

-- the link before the first pair
abbrev pub first_link : Shape → Option (List ℕ)
first_link (LastLink l) = l
first_link (MoreLinks l e r) = l

-- the pairs, each with the link after it
abbrev pub entries_of : Shape → List Entry
entries_of (LastLink l) = []
entries_of (MoreLinks l e r) = record { key = e.0; value = e.1; tree = first_link r } ∷ entries_of r

-- its bytes
abbrev pub shape_bytes : Shape → List ℕ
shape_bytes s = node_spelling (first_link s) (entries_of s)

-- and the CID of these
abbrev pub shape_cid : (List ℕ → List ℕ) → Shape → List ℕ
shape_cid digest s = cid digest (shape_bytes s)

abbrev mutual
  pub part_link : (List ℕ → List ℕ) → Part → Option (List ℕ)
  part_link digest Nothing = None
  part_link digest (Sub m) = Some (shape_cid digest (shape digest m))

  pub shape : (List ℕ → List ℕ) → Node → Shape
  shape digest (Last p) = LastLink (part_link digest p)
  shape digest (More p e r) = MoreLinks (part_link digest p) e (shape digest r)

-- the block of a node of a tree
abbrev pub node_bytes : (List ℕ → List ℕ) → Node → List ℕ
node_bytes digest m = shape_bytes (shape digest m)

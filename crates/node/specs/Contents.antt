-- What a node by itself holds.
use Rattle.std.specs.Prelude.{◌≡◌, ℕ, Bool, true, ◌&&◌, List, [], ◌∷◌, ◌++◌, length, Option, Result, Ok, Err, IsOk}
use Rattle.std.specs.Cmp.Lexicographic.{slice_cmp}
use Rattle.std.specs.Ordering.{nat_cmp, is_lt}
use Rattle.spec.specs.Reading.{IsBytes}
use Rattle.spec.specs.Head.{head}
use Rattle.spec.specs.NodeFormat.{Entry, NodeFault, is_key, link_or_null, entries_bytes, are_keys_after, are_links, is_node, entries_at, read_node}

-- the subtree before the entries, and the entries
pub record Contents : Type 0 where
  pub left : Option (List ℕ)
  pub entries : List Entry

-- the key of the last entry, or the key before the entries
abbrev pub last_key : List ℕ → List Entry → List ℕ
last_key before [] = before
last_key before (e ∷ es) = last_key e.key es

-- a key of 1 to 1,024 bytes that is greater than the entries' keys
abbrev pub is_next_key : List Entry → List ℕ → Bool
is_next_key es key = is_lt (slice_cmp nat_cmp (last_key [] es) key) && is_key key

-- ---- entries by their bytes

abbrev pub entries_read : Result (Option (List ℕ) × List Entry) NodeFault → List Entry
entries_read (Ok x) = x.1
entries_read (Err f) = []

-- the entries of the node without a left link that has so many and these bytes for them
unfoldable pub entries_in : ℕ → List ℕ → List Entry
entries_in n bytes = entries_read (read_node ((0xa2 ∷ 0x61 ∷ 0x65 ∷ head 4 n) ++ bytes ++ (0x61 ∷ 0x6c ∷ 0xf6 ∷ [])))

-- so many entries, spelled by these bytes, the last with this key
pub record Spells (n : ℕ) (bytes last : List ℕ) (es : List Entry) : Type 0 where
  pub spelled : bytes ≡ entries_bytes [] es
  pub counted : n ≡ length es
  pub ended : last ≡ last_key [] es
  pub ascending : are_keys_after [] es ≡ true
  pub linked : are_links es ≡ true

abbrev pub IsWritten : ℕ → List ℕ → List ℕ → Type 0
IsWritten n bytes last = Spells n bytes last (entries_in n bytes)

-- ---- entries as a block that was read shows them

abbrev pub entries_of_reading : Result (List Entry × List ℕ) NodeFault → List Entry
entries_of_reading (Ok x) = x.0
entries_of_reading (Err f) = []

-- the entries that so many readings show, the first after no key
unfoldable pub entries_shown : ℕ → List ℕ → List Entry
entries_shown n bytes = entries_of_reading (entries_at n [] bytes)

-- so many entries can be read, and are a node's; behind them stands the left link, and nothing more
pub record IsRead (left : Option (List ℕ)) (n : ℕ) (bytes : List ℕ) : Type 0 where
  pub fits : IsBytes bytes
  pub all : IsOk (entries_at n [] bytes)
  pub grammar : is_node left (entries_shown n bytes) ≡ true
  pub ends : bytes ≡ entries_bytes [] (entries_shown n bytes) ++ (0x61 ∷ 0x6c ∷ link_or_null left)

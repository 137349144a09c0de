-- The bytes of nodes, and what a reader says of bytes that depart from them.
use Rattle.std.specs.Prelude.{◌≡◌, ℕ, Bool, true, false, List, [], ◌∷◌, ◌++◌, length, take, replicate, Option, Some, None, Result, Ok, Err}
use Rattle.std.proofs.Common.{refl}
use Rattle.std.specs.List.{list_all, range_with_len}
use Rattle.spec.specs.Head.{head_at}
use Rattle.spec.specs.NodeFormat.{Entry, NodeFault, NotNode, BadPrefix, KeyOrder, KeyLength, node_spelling, entry_at, entries_at, read_node}
use Rattle.spec.proofs.rows.Written.{hex, cid_of_byte, entry}

-- the CID of 32 bytes 11 ends each entry
abbrev ends : List ℕ
ends = replicate 32 0x11

abbrev value : List ℕ
value = cid_of_byte 0x11

abbrev two_entries : List Entry
two_entries = entry "a/b" value ∷ entry "a/cd" value ∷ []

node_of_two_entries : node_spelling None two_entries
    ≡ hex "a2616582" ++ hex "a4616b43612f626170006174f66176d82a58250001711220" ++ ends ++ hex "a4616b4263646170026174f66176d82a58250001711220" ++ ends ++ hex "616cf6"
node_of_two_entries = refl

node_of_118_bytes : length (node_spelling None two_entries) ≡ 118
node_of_118_bytes = refl

abbrev Reads : List ℕ → Result (Option (List ℕ) × List Entry) NodeFault → Type 0
Reads bytes result = read_node bytes ≡ result

-- the empty node, one with a left link alone, and that of two entries
nodes_that_are_read : Reads (hex "a2616580616cf6") (Ok (None, []))
    × Reads (hex "a2616580616cd82a58250001711220" ++ ends) (Ok (Some value, []))
    × Reads (node_spelling None two_entries) (Ok (None, two_entries))
unfolding read_node entries_at entry_at head_at
nodes_that_are_read = (refl, refl, refl)

-- l before e; a byte left over; no byte at all
not_nodes : Reads (hex "a2616cf6616580") (Err NotNode) × Reads (hex "a2616580616cf600") (Err NotNode) × Reads [] (Err NotNode)
unfolding read_node entries_at entry_at head_at
not_nodes = (refl, refl, refl)

-- with the second entry's prefix one short; with a key below the first; with a prefix in the first entry; with an empty key
bad_entries : Reads (hex "a2616582" ++ hex "a4616b43612f626170006174f66176d82a58250001711220" ++ ends ++ hex "a4616b432f63646170016174f66176d82a58250001711220" ++ ends ++ hex "616cf6") (Err BadPrefix)
    × Reads (hex "a2616582" ++ hex "a4616b43612f626170006174f66176d82a58250001711220" ++ ends ++ hex "a4616b41616170026174f66176d82a58250001711220" ++ ends ++ hex "616cf6") (Err KeyOrder)
    × Reads (hex "a2616581" ++ hex "a4616b43612f626170016174f66176d82a58250001711220" ++ ends ++ hex "616cf6") (Err BadPrefix)
    × Reads (hex "a2616581" ++ hex "a4616b406170006174f66176d82a58250001711220" ++ ends ++ hex "616cf6") (Err KeyLength)
unfolding read_node entries_at entry_at head_at
bad_entries = (refl, refl, refl, refl)

abbrev is_not_node : Result (Option (List ℕ) × List Entry) NodeFault → Bool
is_not_node (Err NotNode) = true
is_not_node other = false

-- each proper beginning of a node's bytes
cut_short : list_all (λ n. is_not_node (read_node (take n (node_spelling None two_entries)))) (range_with_len 0 118) ≡ true
unfolding read_node entries_at entry_at head_at
cut_short = refl

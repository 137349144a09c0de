-- Entries as their bytes show them: without the whole key.
use Rattle.std.specs.Prelude.{ℕ, zero, suc, ◌^◌, List, [], ◌∷◌, length, nat_lt, ◌==◌, Option, Result, Ok, Err}
use Rattle.spec.specs.Reading.{◌>>=◌, ensure, front}
use Rattle.node.specs.Contents.{entries_shown}
use Rattle.spec.specs.NodeFormat.{Entry, NodeFault, NotNode, NodeReader, common, suffix_after, literal, argument_of, link_at, link_or_null_at, entries_at}

-- how many bytes the key has in common with the key before, its other bytes, the record and the subtree after it
pub record Row : Type 0 where
  pub prefix : ℕ
  pub suffix : List ℕ
  pub value : List ℕ
  pub tree : Option (List ℕ)

abbrev pub row_after : List ℕ → Entry → Row
row_after before e = record { prefix = common before e.key; suffix = suffix_after before e.key; value = e.value; tree = e.tree }

-- the entries, the first after the key before
abbrev pub rows : List ℕ → List Entry → List Row
rows before [] = []
rows before (e ∷ es) = row_after before e ∷ rows e.key es

-- ---- the reading of an entry without its tests against the key before

unfoldable pub row_at : NodeReader Row
row_at bytes = do
  in_k ← literal (0xa4 ∷ 0x61 ∷ 0x6b ∷ []) bytes
  n ← argument_of 2 in_k
  k ← front NotNode n.0 n.1
  in_p ← literal (0x61 ∷ 0x70 ∷ []) k.1
  p ← argument_of 0 in_p
  p_ok ← ensure (nat_lt p.0 (2 ^ 63)) NotNode
  in_t ← literal (0x61 ∷ 0x74 ∷ []) p.1
  t ← link_or_null_at in_t
  in_v ← literal (0x61 ∷ 0x76 ∷ []) t.1
  v ← link_at in_v
  Ok (record { prefix = p.0; suffix = k.0; value = v.0; tree = t.0 }, v.1)

unfoldable pub rows_at : ℕ → NodeReader (List Row)
rows_at zero bytes = Ok ([], bytes)
rows_at (suc n) bytes = do
  r ← row_at bytes
  rs ← rows_at n r.1
  Ok (r.0 ∷ rs.0, rs.1)

abbrev pub rows_of_reading : Result (List Row × List ℕ) NodeFault → List Row
rows_of_reading (Ok x) = x.0
rows_of_reading (Err f) = []

-- the rows that so many readings show
unfoldable pub rows_shown : ℕ → List ℕ → List Row
rows_shown n bytes = rows_of_reading (rows_at n bytes)

-- the bytes after so many entries, the first after the key before
unfoldable pub after_entries : ℕ → List ℕ → List ℕ → Result (List ℕ) NodeFault
after_entries n before bytes = do
  es ← entries_at n before bytes
  Ok es.1

-- a node by its left link and the entries, read once to their end and then shown
unfoldable pub shown_node : List ℕ → Result (Option (List ℕ) × List Entry) NodeFault
shown_node bytes = do
  in_e ← literal (0xa2 ∷ 0x61 ∷ 0x65 ∷ []) bytes
  n ← argument_of 4 in_e
  rest ← after_entries n.0 [] n.1
  in_l ← literal (0x61 ∷ 0x6c ∷ []) rest
  left ← link_or_null_at in_l
  ended ← ensure (length left.1 == 0) NotNode
  Ok (left.0, entries_shown n.0 n.1)

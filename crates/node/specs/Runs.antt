-- Entries of a node that are passed over one after the other.
use Rattle.std.specs.Prelude.{◌≡◌, ℕ, zero, suc, true, List, ◌++◌, Result, Ok}
use Rattle.spec.specs.Reading.{◌>>=◌}
use Rattle.spec.specs.NodeFormat.{Entry, NodeFault, entries_bytes, are_keys_after, are_links, entry_at}
use Rattle.node.specs.Rows.{row_at}

-- bytes that begin with these entries of a node, the first after the key before
pub record Begins (bytes before : List ℕ) (es : List Entry) : Type 0 where
  pub rest : List ℕ
  pub spelled : bytes ≡ entries_bytes before es ++ rest
  pub ascending : are_keys_after before es ≡ true
  pub linked : are_links es ≡ true

-- the bytes after so many entries, without the tests against the key before
unfoldable pub after_rows : ℕ → List ℕ → Result (List ℕ) NodeFault
after_rows zero bytes = Ok bytes
after_rows (suc n) bytes = do
  r ← row_at bytes
  after_rows n r.1

-- the last key and the bytes after so many entries, the first after the key before
unfoldable pub after_keys : ℕ → List ℕ → List ℕ → Result (List ℕ × List ℕ) NodeFault
after_keys zero before bytes = Ok (before, bytes)
after_keys (suc n) before bytes = do
  e ← entry_at before bytes
  after_keys n e.0.key e.1

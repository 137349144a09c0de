-- Blocks, and whether they are nodes.
use Rattle.std.specs.Prelude.{◌≡◌, ℕ, Bool, List, Option, Some, None, Result, Ok, Err, is_ok}
use Rattle.spec.specs.Cid.{cid as cid_of}
use Rattle.spec.specs.NodeFormat.{Entry, NodeFault, read_node}
use Rattle.node.specs.Contents.{Contents}

-- whether the bytes of a block are a node's
abbrev pub reads_as_node : List ℕ → Bool
reads_as_node bytes = is_ok (read_node bytes)

-- what a reading shows, and nothing where it failed
abbrev pub contents_of : Result (Option (List ℕ) × List Entry) NodeFault → Option Contents
contents_of (Ok n) = Some (record { left = n.0; entries = n.1 })
contents_of (Err f) = None

-- the bytes have this CID, and these say whether they are a node's
pub record IsBlock (digest : List ℕ → List ℕ) (bytes cid : List ℕ) (is_node : Bool) : Type 0 where
  pub named : cid ≡ cid_of digest bytes
  pub tested : is_node ≡ reads_as_node bytes

-- What a node shows, from its left link and its entries.
use Rattle.std.proofs.Common.{◌≡◌, ◌<◌, ◌^◌, ℕ, length, List, Option, Some, None, Result, Ok, Err, refl, sym, ap}
use Rattle.std.specs.Prelude.{IfSome}
use Rattle.spec.specs.Reading.{IsBytes}
use Rattle.spec.specs.NodeFormat.{Entry, NodeFault, read_node}
use Rattle.node.specs.Contents.{Contents}
use Rattle.edit_laws.specs.Sources.{shape_of_reading}
use Rattle.edit_laws.proofs.OverSource.{shape_bytes-shape_of_bytes}
use Rattle.rows.specs.Entries.{shape_of}
use Rattle.block.specs.Nodes.{contents_of}
use Rattle.lookups.specs.Nodes.{IsNodeOf}

pub read-some : (r : Result (Option (List ℕ) × List Entry) NodeFault) (n : Contents) → Some n ≡ contents_of r
    → r ≡ Ok (n.left, n.entries)
read-some (Ok x) n h =
    let same : n ≡ record { left = x.0; entries = x.1 } = cc in
    let read : Contents → Result (Option (List ℕ) × List Entry) NodeFault = λ m. Ok (m.left, m.entries) in
    ap read (sym same)
read-some (Err f) n h = absurd cc

pub nothing-shown : (r : Result (Option (List ℕ) × List Entry) NodeFault) → None ≡ contents_of r
    → shape_of_reading r ≡ None
nothing-shown (Ok x) h = absurd cc
nothing-shown (Err f) h = refl

-- what is shown is a node of the grammar, and these are its bytes
pub shown-node : (bytes : List ℕ) (r : Option Contents) → IsBytes bytes → length bytes < 2 ^ 64
    → r ≡ contents_of (read_node bytes) → IfSome r (λ n. IsNodeOf bytes (shape_of n))
shown-node bytes None are short h = tt
shown-node bytes (Some n) are short h =
    let p = shape_bytes-shape_of_bytes bytes (shape_of n) are (ap shape_of_reading (read-some (read_node bytes) n h)) in
    record { spelled = p.0; lawful = p.1; short = short }

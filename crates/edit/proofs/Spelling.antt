-- Blocks that read as nodes are their nodes' bytes.
use Rattle.std.proofs.Common.{◌≡◌, ℕ, List, sym, subst}
use Rattle.std.specs.declared.option.Option.TheVariants.{Some}
use Rattle.spec.specs.NodeFormat.{read_node}
use Rattle.node.specs.Contents.{Contents}
use Rattle.block.specs.Nodes.{contents_of}
use Rattle.rows.specs.Drafts.{shape_in}
use Rattle.rows.specs.Entries.{shape_of}
use Rattle.lookups.specs.Nodes.{IsNodeOf}
use Rattle.edit.proofs.Making.{shape_in-shown}
use Rattle.edit.proofs.Reading.{shape-read}

-- what was read is the node that the bytes show
pub read-is-node : (bytes : List ℕ) (v : Contents) → Some v ≡ contents_of (read_node bytes) → IsNodeOf bytes (shape_of v)
    → IsNodeOf bytes (shape_in bytes)
read-is-node bytes v h n =
    subst (IsNodeOf bytes) (sym (shape_in-shown bytes (shape_of v) (shape-read (read_node bytes) v h))) n

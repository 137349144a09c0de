use Rattle.std.proofs.Common.{◌≡◌, ◌++◌, length, []}
use Rattle.spec.specs.Layer.{layer as layer_of}
use Rattle.node.specs.Contents.{last_key}
use Rattle.scratch.specs.Cut.{link_to, entries_next, pairs_of_rows, rows_beyond}
use Rattle.scratch.proofs.Ascending.{Rises}
use Rattle.scratch.proofs.nodes.write_node.Given as goal

abbrev pub decreases-loop-row : goal.decreases-loop-row
decreases-loop-row g l = length l.unread.rows

-- the entries so far, and the keys that are left above them
abbrev pub invariant-loop-row : goal.invariant-loop-row
invariant-loop-row g l =
    record {
      rises : Rises (last_key [] l.writer.entries) (pairs_of_rows l.unread.rows);
      left : l.writer.left ≡ link_to g.D.Digest.digest_of l.fn.unread.first;
      entries : entries_next g.D.Digest.digest_of (layer_of g.D.Digest.digest_of g.row.B) l.layer l.fn.unread.rows
          ≡ l.writer.entries ++ entries_next g.D.Digest.digest_of (layer_of g.D.Digest.digest_of g.row.B) l.layer l.unread.rows;
      beyond : rows_beyond (layer_of g.D.Digest.digest_of g.row.B) l.layer l.fn.unread.rows
          ≡ rows_beyond (layer_of g.D.Digest.digest_of g.row.B) l.layer l.unread.rows;
    }

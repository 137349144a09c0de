use Rattle.std.proofs.Common.{◌≡◌, ◌++◌, false, length, map, []}
use Rattle.spec.specs.Layer.{layer as layer_of}
use Rattle.scratch.specs.Cut.{counted, is_row_at, pairs_of_rows, raised, rows_raised, tops_after, tops_of}
use Rattle.scratch.specs.Level.{pair_and_count}
use Rattle.scratch.specs.Rows.{AreLayered}
use Rattle.scratch.proofs.Ascending.{Rises}
use Rattle.scratch.proofs.nodes.write_layer.Given as goal

abbrev pub decreases-loop-row : goal.decreases-loop-row
decreases-loop-row g l = length l.unread.rows

-- what is written so far, and what the rows that are left make
abbrev pub invariant-loop-row : goal.invariant-loop-row
invariant-loop-row g l =
    record {
      rises : Rises [] (pairs_of_rows l.unread.rows);
      above : is_row_at (layer_of g.D.Digest.digest_of g.row.B) l.layer l.unread.rows ≡ false;
      rows : map pair_and_count l.rows.items ++ counted (rows_raised g.D.Digest.digest_of (layer_of g.D.Digest.digest_of g.row.B) l.layer l.unread.rows)
          ≡ counted (rows_raised g.D.Digest.digest_of (layer_of g.D.Digest.digest_of g.row.B) l.layer l.fn.unread.rows);
      layered : AreLayered (layer_of g.D.Digest.digest_of g.row.B) l.rows.items;
      nodes : map (λ bytes. bytes.items) l.nodes.items ++ tops_after (rows_raised g.D.Digest.digest_of (layer_of g.D.Digest.digest_of g.row.B) l.layer l.unread.rows)
          ≡ tops_of (raised g.D.Digest.digest_of (layer_of g.D.Digest.digest_of g.row.B) l.layer l.fn.unread);
    }

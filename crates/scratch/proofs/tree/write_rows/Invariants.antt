use Rattle.std.proofs.Common.{◌≡◌, map, length}
use Rattle.std.specs.Arc.{arc_value}
use Rattle.spec.specs.Layer.{layer as layer_of}
use Rattle.scratch.specs.Level.{cut_with, IsLevel}
use Rattle.scratch.specs.Rows.{pair_of}
use Rattle.scratch.proofs.Raising.{cut_of}
use Rattle.scratch.proofs.tree.write_rows.Given as goal

-- the cut at the layer
abbrev pub invariant-loop-layer : goal.invariant-loop-layer
invariant-loop-layer g l =
    record {
      level : IsLevel (layer_of g.D.Digest.digest_of g.row.B) l.level.first l.level.rows.items (length l.level.nodes.items);
      cut : cut_with l.level.first l.level.rows.items (map arc_value l.level.nodes.items)
          ≡ cut_of g.D.Digest.digest_of (layer_of g.D.Digest.digest_of g.row.B) l.layer (map pair_of l.fn.rows.items);
    }

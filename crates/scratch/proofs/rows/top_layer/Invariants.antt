use Rattle.std.proofs.Common.{◌≡◌, map, drop, max}
use Rattle.spec.specs.Layer.{layer as layer_of}
use Rattle.spec.specs.Tree.{top_layer as top_layer_of}
use Rattle.scratch.specs.Rows.{pair_of, AreLayered}
use Rattle.scratch.proofs.rows.top_layer.Given as goal

-- the rest, and what is the greatest so far
abbrev pub invariant-loop-row : goal.invariant-loop-row
invariant-loop-row g l =
    record {
      rest : AreLayered (layer_of g.D.Digest.digest_of g.row.B) (drop l.row-index l.rows);
      greatest : max l.top (top_layer_of (layer_of g.D.Digest.digest_of g.row.B) (map pair_of (drop l.row-index l.rows)))
          ≡ top_layer_of (layer_of g.D.Digest.digest_of g.row.B) (map pair_of l.rows);
    }

use Rattle.std.proofs.Common.{map, ap, ◌∙◌}
use Rattle.std.specs.Arc.{arc_value}
use Rattle.spec.specs.Cid.{cid}
use Rattle.scratch.specs.Rows.{pair_of}
use Rattle.scratch.proofs.Whole.{first-is_root}
use Rattle.scratch.proofs.tree.write.Goals as goal

pub returns-clause-root : goal.returns-clause-root
returns-clause-root g c =
    first-is_root arc_value g.D.Digest.digest_of g.row.B (map pair_of c.args.rows.items) c.in_ok-blocks.blocks.items c.index.result.now c.cid-root.result c.in_ok-blocks.ensures c.index.ensures
    (c.cid-root.ensures ∙ ap (cid g.D.Digest.digest_of) c.deref.ensures)

pub returns-clause-blocks : goal.returns-clause-blocks
returns-clause-blocks g c = c.in_ok-blocks.ensures

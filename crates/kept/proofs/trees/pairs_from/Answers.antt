use Rattle.std.specs.Arc.{arc_value}
use Rattle.std.specs.Prelude.{option_map}
use Rattle.kept.specs.Counts.{bytes_at}
use Rattle.kept.specs.Uses.{lent}
use Rattle.kept.proofs.LentTrees.{lent_tree}
use Rattle.kept.proofs.trees.pairs_from.Goals as goal

pub returns : goal.returns
returns g c es h =
    c.walk.ensures.pairs es
    (lent_tree g.D.Digest.digest_of g.row.B (bytes_at c.args.kept.now.uses) (λ q. option_map arc_value (lent c.lender-source.result.blocks.now q))
    c.args.root es c.lender-source.ensures.blocks h)

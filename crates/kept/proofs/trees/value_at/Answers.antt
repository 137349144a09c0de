use Rattle.std.proofs.Common.{arith}
use Rattle.std.specs.Arc.{arc_value}
use Rattle.std.specs.Prelude.{option_map}
use Rattle.kept.specs.Counts.{bytes_at}
use Rattle.kept.specs.Uses.{lent}
use Rattle.kept.proofs.LentTrees.{lent_tree}
use Rattle.kept.proofs.trees.value_at.Goals as goal

pub returns-clause-value : goal.returns-clause-value
returns-clause-value g c es h =
    c.get-value.ensures.value es
    (lent_tree g.D.Digest.digest_of g.row.B (bytes_at c.args.kept.now.uses) (λ q. option_map arc_value (lent c.lender-source.result.blocks.now q))
    c.args.root es c.lender-source.ensures.blocks h)

pub returns-clause-reads : goal.returns-clause-reads
returns-clause-reads g c es h =
    let most = c.get-value.ensures.layers es
    (lent_tree g.D.Digest.digest_of g.row.B (bytes_at c.args.kept.now.uses) (λ q. option_map arc_value (lent c.lender-source.result.blocks.now q))
    c.args.root es c.lender-source.ensures.blocks h) in
    let none = c.lender-source.ensures.asked in
    omega (arith, most, none)

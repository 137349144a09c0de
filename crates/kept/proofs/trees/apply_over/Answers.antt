use Rattle.std.proofs.Common.{arith}
use Rattle.std.proofs.lemmas.Result.{err_from_is_err_and}
use Rattle.std.specs.Arc.{arc_value}
use Rattle.std.specs.Prelude.{option_map}
use Rattle.kept.specs.Counts.{bytes_at}
use Rattle.kept.specs.Uses.{lent}
use Rattle.kept.proofs.LentTrees.{lent_tree}
use Rattle.kept.proofs.trees.apply_over.Goals as goal

pub returns-clause-edit : goal.returns-clause-edit
returns-clause-edit g c es h =
    c.in_ok-edit.ensures.edit es
    (lent_tree g.D.Digest.digest_of g.row.B (bytes_at c.args.kept.now.uses) (λ q. option_map arc_value (lent c.lender-source.result.blocks.now q))
    c.args.root es c.lender-source.ensures.blocks h)

pub returns-clause-reads : goal.returns-clause-reads
returns-clause-reads g c es h =
    let read = c.in_ok-edit.ensures.reads es
    (lent_tree g.D.Digest.digest_of g.row.B (bytes_at c.args.kept.now.uses) (λ q. option_map arc_value (lent c.lender-source.result.blocks.now q))
    c.args.root es c.lender-source.ensures.blocks h) in
    let none = c.lender-source.ensures.asked in
    omega (arith, read, none)

pub returns-clause-most : goal.returns-clause-most
returns-clause-most g c es h =
    let most = c.apply.ensures.layers es
    (lent_tree g.D.Digest.digest_of g.row.B (bytes_at c.args.kept.now.uses) (λ q. option_map arc_value (lent c.lender-source.result.blocks.now q))
    c.args.root es c.lender-source.ensures.blocks h) in
    let none = c.lender-source.ensures.asked in
    omega (arith, most, none)

pub returns-in_err-edit-clause-fault : goal.returns-in_err-edit-clause-fault
returns-in_err-edit-clause-fault g c es h =
    let p = err_from_is_err_and c.from_residual.result c.from_residual.ensures.1 in
    rw (p.1, p.2)
    (c.in_err-edit.ensures.fault es
    (lent_tree g.D.Digest.digest_of g.row.B (bytes_at c.args.kept.now.uses) (λ q. option_map arc_value (lent c.lender-source.result.blocks.now q))
    c.args.root es c.lender-source.ensures.blocks h))

pub returns-clause-nodes : goal.returns-clause-nodes
returns-clause-nodes g c es h =
    c.in_ok-edit.ensures.nodes es
    (lent_tree g.D.Digest.digest_of g.row.B (bytes_at c.args.kept.now.uses) (λ q. option_map arc_value (lent c.lender-source.result.blocks.now q))
    c.args.root es c.lender-source.ensures.blocks h)

use Rattle.spec.specs.Blocks.{nodes}
use Rattle.difference_commands.specs.Trees.{IsClashBetween}
use Rattle.difference_commands.specs.Views.{pairs_in}
use Rattle.difference_commands.proofs.Giving.{clash-left, clash-right, handed-on}
use Rattle.difference_commands.proofs.trees.difference_of.Goals as goal

pub returns-in_err-before-clause-fault : goal.returns-in_err-before-clause-fault
returns-in_err-before-clause-fault g c =
    let digest = g.D.Digest.digest_of in
    let es = pairs_in c.args.old.now in
    let fs = pairs_in c.args.new.now in
    handed-on (IsClashBetween digest es fs) c.in_err-before.field-0.0 c.from_residual.result c.from_residual.ensures.1
    (clash-left digest (nodes digest 2 es) (nodes digest 2 fs) c.in_err-before.field-0.0 c.in_err-before.ensures.fault)

pub returns-in_err-after-clause-fault : goal.returns-in_err-after-clause-fault
returns-in_err-after-clause-fault g c =
    let digest = g.D.Digest.digest_of in
    let es = pairs_in c.args.old.now in
    let fs = pairs_in c.args.new.now in
    handed-on (IsClashBetween digest es fs) c.in_err-after.field-0.0 c.from_residual-in_err-after.result c.from_residual-in_err-after.ensures.1
    (clash-right digest (nodes digest 2 es) (nodes digest 2 fs) c.in_err-after.field-0.0 c.in_err-after.ensures.fault)

pub returns-clause-difference : goal.returns-clause-difference
returns-clause-difference g c =
    c.in_ok-found.ensures.difference (pairs_in c.args.old.now) (pairs_in c.args.new.now) c.in_ok-before.ensures.tree c.in_ok-after.ensures.tree

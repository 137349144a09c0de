use Rattle.difference.specs.Differences.{IsCompared}
use Rattle.std.specs.Prelude.{Ok}
use Rattle.lookups.specs.Maps.{first_of}
use Rattle.difference_commands.proofs.Giving.{at-source, fit, unfit}
use Rattle.difference_commands.proofs.trees.compare_blocks.Goals as goal

pub returns-then-not-gives_all-clause-fault : goal.returns-then-not-gives_all-clause-fault
returns-then-not-gives_all-clause-fault g c =
    unfit g.D.Digest.digest_of c.args.blocks.now c.in_ok-source.source c.in_ok-source.ensures c.gives_all.result c.gives_all.ensures.all c.if-not-gives_all.true

pub returns-in-Ok-clause-difference : goal.returns-in-Ok-clause-difference
returns-in-Ok-clause-difference g c =
    let digest = g.D.Digest.digest_of in
    at-source digest c.args.blocks.now c.in_ok-source.source c.in_ok-source.ensures
    (λ gives. IsCompared digest 2 gives c.args.old c.args.new (Ok c.in-Ok.found)) (first_of digest c.gives_all.new.source.blocks) c.gives_all.ensures.same
    c.in-Ok.ensures.compared

pub returns-in-Ok-clause-given : goal.returns-in-Ok-clause-given
returns-in-Ok-clause-given g c =
    fit g.D.Digest.digest_of c.args.blocks.now c.in_ok-source.source c.in_ok-source.ensures c.gives_all.result c.gives_all.ensures.all c.if-not-gives_all.false

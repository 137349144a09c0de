use Rattle.repository_check.specs.Views.{pairs_of}
use Rattle.repository_check.proofs.Trees.{compared, clashed}
use Rattle.repository_check.proofs.tree.is_rebuilt.Goals as goal

pub returns-in-Ok-clause-rebuilt : goal.returns-in-Ok-clause-rebuilt
returns-in-Ok-clause-rebuilt g c =
    compared g.D.Digest.digest_of g.row.B c.args.places.now c.args.root.now (pairs_of c.args.pairs.now) _ _ c.is_found.result
    c.in-Ok.ensures.root c.in-Ok.ensures.blocks c.is_found.ensures

pub returns-clause-rebuilt : goal.returns-clause-rebuilt
returns-clause-rebuilt g c =
    clashed g.D.Digest.digest_of g.row.B c.args.places.now c.args.root.now (pairs_of c.args.pairs.now) c.in-Err-Clash.field-0
    c.in-Err-Clash.field-0-0 c.in-Err-Clash.field-0-is c.in-Err-Clash.ensures.fault

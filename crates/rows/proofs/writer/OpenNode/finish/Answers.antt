use Rattle.rows.proofs.Runs.{ends}
use Rattle.rows.proofs.writer.OpenNode.finish.Goals as goal

pub invariant_of-result : goal.invariant_of-result
invariant_of-result g c =
    (ends c.in_ok-closed.field-0 c.in_ok-finish.field-0.items c.args.self c.args.last c.in_ok-finish.ensures.bytes
    c.in_ok-finish.ensures.grammar c.in_ok-closed.ensures.some c.in_ok-closed.ensures.rows c.in_ok-closed.ensures.link).0

pub returns : goal.returns
returns g c =
    (ends c.in_ok-closed.field-0 c.in_ok-finish.field-0.items c.args.self c.args.last c.in_ok-finish.ensures.bytes
    c.in_ok-finish.ensures.grammar c.in_ok-closed.ensures.some c.in_ok-closed.ensures.rows c.in_ok-closed.ensures.link).1

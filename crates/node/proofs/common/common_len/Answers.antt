use Rattle.std.proofs.Common.{arith}
use Rattle.node.proofs.CommonParts.{common-drop-none}
use Rattle.node.proofs.common.common_len.Goals as goal

pub returns-else-same-other-clause-value : goal.returns-else-same-other-clause-value
returns-else-same-other-clause-value c =
    omega (arith, c.loop-same.invariant.value, common-drop-none c.args.one.now c.args.other.now c.loop-same.same c.if-same-other.false)

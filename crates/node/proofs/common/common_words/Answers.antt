use Rattle.std.proofs.Common.{arith}
use Rattle.node.proofs.CommonParts.{common-word}
use Rattle.node.proofs.common.common_words.Goals as goal

pub loop-same-preserved : goal.loop-same-preserved
loop-same-preserved c = record {
  in_one = omega (arith, c.loop-same.invariant.in_one, c.loop-same-test.true);
  in_other = omega (arith, c.loop-same.invariant.in_other, c.if-other-same-ge8.true);
  value = common-word c.args.one.now c.args.other.now c.loop-same.same c.word.result c.word-in-loop-same.result c.loop-same.invariant.in_one c.loop-same.invariant.in_other
      c.loop-same-test.true c.if-other-same-ge8.true c.loop-same.invariant.value c.word.ensures c.word-in-loop-same.ensures c.if-word.false;
}

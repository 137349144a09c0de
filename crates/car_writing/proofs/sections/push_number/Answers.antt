use Rattle.std.proofs.Common.{◌++◌, arith}
use Rattle.spec.specs.Varint.{varint}
use Rattle.car_writing.proofs.Numbers.{spells-none, spells-more}
use Rattle.car_writing.proofs.sections.push_number.Goals as goal

pub loop-left-init : goal.loop-left-init
loop-left-init g c = spells-none c.args.out.now.items c.args.number (omega arith)

pub loop-left-preserved : goal.loop-left-preserved
loop-left-preserved g c =
    spells-more c.loop-left.out.items c.loop-left.left (c.args.out.now.items ++ varint c.args.number) c.push.new.self.items
    c.loop-left.invariant c.loop-left-test.true c.in_ok-push.ensures.items

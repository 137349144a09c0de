use Rattle.std.specs.Arc.{arc_value}
use Rattle.scratch.proofs.Moved.{begun, begun-left, moved-on, moved-left}
use Rattle.scratch.proofs.merging.push_under.Goals as goal

pub loop-init : goal.loop-init
loop-init g c =
    record {
      nodes = begun arc_value c.args.count c.args.nodes.now.items c.args.under.now.rest.items;
      under = begun-left arc_value c.args.count c.args.under.now.rest.items;
    }

pub loop-preserved : goal.loop-preserved
loop-preserved g c =
    record {
      nodes = moved-on arc_value c.args.count c.loop.counter c.loop-test.true c.loop.under.rest.items c.next.new.self.rest.items c.in-Some.node c.in-Some.ensures.items
          c.loop.nodes.items c.push.new.self.items _ c.in_ok-push.ensures.items c.loop.invariant.nodes;
      under = moved-left arc_value c.args.count c.loop.counter c.loop-test.true c.loop.under.rest.items c.next.new.self.rest.items c.in-Some.node c.in-Some.ensures.items
          _ c.loop.invariant.under;
    }

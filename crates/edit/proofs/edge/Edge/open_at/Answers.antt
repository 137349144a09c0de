use Rattle.lookups.specs.Steps.{nodes_given}
use Rattle.std.proofs.Common.{arith, rules}
use Rattle.edit.specs.States.{log_in}
use Rattle.edit.proofs.Pairing.{open-already}
use Rattle.edit.proofs.edge.Edge.open_at.Goals as goal

pub returns-then-depth-len : goal.returns-then-depth-len
returns-then-depth-len g c =
    record {
      opened = open-already (nodes_given (g.S.Source.gives c.args.src.now)) c.args.depth c.args.self.now.levels.items
          c.args.self.now.rest (log_in c.args.self.now) (omega (arith, c.if-depth-len.true, c.len.ensures));
      counted = search rules;
      same = search rules;
      stopped = tt;
      still = tt;
      halted = tt;
    }

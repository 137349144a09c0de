use Rattle.std.proofs.Common.{arith, rules}
use Rattle.node.proofs.Writing.{count-fits, is_node-written}
use Rattle.node.proofs.writer.NodeWriter.bytes.Goals as goal

pub returns-clause-grammar : goal.returns-clause-grammar
returns-clause-grammar g c =
    let s = c.self.inside in
    let v = s.entries in
    is_node-written s.count v.items s.last s.left c.args.self.now c.self.invariant c.self.view_is
    (omega (arith, count-fits s.count v.items s.last _ c.self.invariant, v.small, v.ok.0, v.ok.1)) c.lend.ensures.own

pub returns-clause-bytes : goal.returns-clause-bytes
returns-clause-bytes g c = search rules

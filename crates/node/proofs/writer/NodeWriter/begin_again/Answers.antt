use Rattle.std.proofs.Common.{List, ap}
use Rattle.spec.specs.NodeFormat.{Entry}
use Rattle.node.specs.Contents.{Contents}
use Rattle.node.proofs.Writing.{entries_in-none, IsWritten-none}
use Rattle.node.proofs.writer.NodeWriter.begin_again.Goals as goal

pub invariant_of-self : goal.invariant_of-self
invariant_of-self g c = IsWritten-none _ _ c.clear.ensures.items c.reset.ensures

pub returns : goal.returns
returns g c =
    let made : List Entry → Contents = λ es. record { left = c.args.left; entries = es } in
    ap made (entries_in-none c.clear.new.self.items c.clear.ensures.items)

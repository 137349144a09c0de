use Rattle.std.proofs.Common.{List, ap}
use Rattle.spec.specs.NodeFormat.{Entry}
use Rattle.node.specs.Contents.{Contents}
use Rattle.node.proofs.Writing.{entries_in-none, IsWritten-none}
use Rattle.node.proofs.writer.NodeWriter.begin.Goals as goal

pub invariant_of-result : goal.invariant_of-result
invariant_of-result g c = IsWritten-none _ _ c.in_ok-entries.ensures.items c.in_ok-last.ensures

pub returns : goal.returns
returns g c =
    let made : List Entry → Contents = λ es. record { left = c.args.left; entries = es } in
    ap made (entries_in-none c.in_ok-entries.entries.items c.in_ok-entries.ensures.items)

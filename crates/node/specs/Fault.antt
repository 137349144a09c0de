-- The definitions' fault that a `NodeFault` is.
use Rattle.std.specs.Prelude.{Option, Some}
use Rattle.spec.specs.NodeFormat as node
use Rattle.node.specs.declared.fault.NodeFault.{NodeFault}
use Rattle.node.specs.declared.fault.NodeFault.TheVariants as errors

abbrev pub node_fault_of : NodeFault → Option node.NodeFault
node_fault_of errors.NotNode = Some node.NotNode
node_fault_of errors.BadPrefix = Some node.BadPrefix
node_fault_of errors.KeyOrder = Some node.KeyOrder
node_fault_of errors.KeyLength = Some node.KeyLength

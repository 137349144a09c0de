-- A fault that was answered is that of a reading that failed.
use Rattle.std.proofs.Common.{◌≡◌, Result, Ok, Err}
use Rattle.spec.specs.Reading.{Fails}
use Rattle.node.specs.declared.fault.NodeFault.{NodeFault}
use Rattle.node.specs.declared.fault.NodeFault.TheVariants.{NotNode, BadPrefix, KeyOrder, KeyLength}
use Rattle.spec.specs.NodeFormat as node
use Rattle.node.specs.Fault.{node_fault_of}

-- what fails wherever the reading fails with this fault
pub failing : {Y Z : Type 0} (e : NodeFault) (r : Result Y node.NodeFault) (s : Result Z node.NodeFault) → Fails (node_fault_of e) r → ((f : node.NodeFault) → r ≡ Err f → s ≡ Err f) → Fails (node_fault_of e) s
failing NotNode r s h next = next node.NotNode h
failing BadPrefix r s h next = next node.BadPrefix h
failing KeyOrder r s h next = next node.KeyOrder h
failing KeyLength r s h next = next node.KeyLength h

-- a reading that succeeded fails with none
pub not_failing : {Y : Type 0} (e : NodeFault) (r : Result Y node.NodeFault) (x : Y) → r ≡ Ok x → Fails (node_fault_of e) r → ⊥
not_failing NotNode r x read h = cc
not_failing BadPrefix r x read h = cc
not_failing KeyOrder r x read h = cc
not_failing KeyLength r x read h = cc

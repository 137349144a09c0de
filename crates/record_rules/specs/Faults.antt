-- The definitions' fault that a `RecordFault` is.
use Rattle.std.specs.Prelude.{Option, Some, option_map}
use Rattle.spec.specs.Writes as writes
use Rattle.dagcbor.specs.Fault.{cbor_fault_of}
use Rattle.record_rules.specs.declared.fault.RecordFault.{RecordFault}
use Rattle.record_rules.specs.declared.fault.RecordFault.TheVariants as errors

abbrev pub record_fault_of : RecordFault → Option writes.WriteFault
record_fault_of errors.RecordSize = Some writes.RecordSize
record_fault_of (errors.BadRecord f) = option_map writes.BadRecord (cbor_fault_of f)
record_fault_of errors.NotAMap = Some writes.NotAMap

-- The definitions' fault that a fault is.
use Rattle.std.specs.Prelude.{Option, Some}
use Rattle.tids.specs.Tids as tids
use Rattle.tids.specs.declared.fault.TidFault.{TidFault}
use Rattle.tids.specs.declared.fault.TidFault.TheVariants as errors

abbrev pub tid_fault_of : TidFault → Option tids.TidFault
tid_fault_of errors.BadTid = Some tids.BadTid
tid_fault_of errors.OutOfRange = Some tids.OutOfRange
tid_fault_of errors.NoneAfter = Some tids.NoneAfter

-- The definitions' fault that a `BlocksFault` is; of a want of memory they know nothing.
use Rattle.std.specs.Prelude.{Option, Some, None, option_map}
use Rattle.car_reader.specs.Views.{car_fault_of}
use Rattle.signed_commits.specs.Views.{commit_fault_of}
use Rattle.record_rules.specs.Faults.{record_fault_of}
use Rattle.event_laws.specs.Verdict as verdict
use Rattle.event_blocks.specs.declared.fault.BlocksFault.{BlocksFault}
use Rattle.event_blocks.specs.declared.fault.BlocksFault.TheVariants as errors

abbrev pub blocks_fault_of : BlocksFault → Option verdict.EventFault
blocks_fault_of (errors.Car f) = option_map verdict.OfCar (car_fault_of f)
blocks_fault_of errors.NotTheRoot = Some verdict.NotTheRoot
blocks_fault_of errors.Misnamed = Some verdict.Misnamed
blocks_fault_of errors.CommitMissing = Some verdict.CommitMissing
blocks_fault_of (errors.Commit f) = option_map verdict.OfCommit (commit_fault_of f)
blocks_fault_of errors.OtherDid = Some verdict.OtherDid
blocks_fault_of errors.OtherRev = Some verdict.OtherRev
blocks_fault_of (errors.RecordMissing place) = Some (verdict.RecordMissing place)
blocks_fault_of (errors.RecordSize place) = Some (verdict.RecordSize place)
blocks_fault_of (errors.BadRecord place f) = option_map (verdict.BadRecord place) (record_fault_of f)
blocks_fault_of errors.NoMemory = None

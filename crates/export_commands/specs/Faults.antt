-- What a fault says of the file, and the status that it ends with.
use Rattle.std.specs.Prelude.{ℕ, Option, Some, None}
use Rattle.spec.specs.Exports as exports
use Rattle.repository_check.specs.Views.{check_fault_of}
use Rattle.repository_check.specs.declared.fault.CheckFault.TheVariants as checks
use Rattle.console.specs.Faults.{write_status}
use Rattle.console.specs.declared.fault.CommandFault.{CommandFault}
use Rattle.console.specs.declared.fault.CommandFault.TheVariants as ends
use Rattle.console.specs.declared.reading.ReadFault.{ReadFault}
use Rattle.console.specs.declared.reading.ReadFault.TheVariants as reads
use Rattle.export_commands.specs.declared.fault.ExportFault.{ExportFault}
use Rattle.export_commands.specs.declared.fault.ExportFault.TheVariants as errors

-- the definitions' fault of a file that is no export; they know nothing of want of memory, of failed reads and of JSON
abbrev pub export_fault_of : ExportFault → Option exports.ExportFault
export_fault_of (errors.Check f) = check_fault_of f
export_fault_of (errors.NoJsonForm place) = None
export_fault_of errors.ReadFailed = None

-- what a failed read is called
abbrev pub of_read : ReadFault → ExportFault
of_read reads.NoMemory = errors.Check checks.NoMemory
of_read reads.Failed = errors.ReadFailed

-- the status of a check: of a fault of the file, or of a want of memory
abbrev pub check_status : Option exports.ExportFault → ℕ
check_status (Some f) = 1
check_status None = 3

abbrev pub status_of : ExportFault → ℕ
status_of (errors.Check f) = check_status (check_fault_of f)
status_of (errors.NoJsonForm place) = 1
status_of errors.ReadFailed = 4

-- the status that a command ends with
abbrev pub command_status : CommandFault ExportFault → ℕ
command_status (ends.NoText f) = status_of f
command_status (ends.Unwritten f) = write_status f

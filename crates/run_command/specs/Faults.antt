-- Why there is no report.
use Rattle.std.specs.Prelude.{◌≡◌, ◌⊎◌, ℕ, Option, Some, None}
use Rattle.console.specs.Faults.{write_status}
use Rattle.console.specs.declared.fault.CommandFault.{CommandFault}
use Rattle.console.specs.declared.fault.CommandFault.TheVariants as ends
use Rattle.console.specs.declared.reading.ReadFault.{ReadFault}
use Rattle.console.specs.declared.reading.ReadFault.TheVariants as reads
use Rattle.run_command.specs.declared.script.lines.ScriptFault.{ScriptFault}
use Rattle.run_command.specs.declared.script.lines.ScriptFault.TheVariants as scripts
use Rattle.run_command.specs.declared.fault.RunFault.{RunFault}
use Rattle.run_command.specs.declared.fault.RunFault.TheVariants as errors

-- the faulty line, for which there is no script
abbrev pub run_fault_of : RunFault → Option ℕ
run_fault_of (errors.BadScript number) = Some number
run_fault_of errors.BadDid = None
run_fault_of errors.Uneven = None
run_fault_of errors.NoMemory = None
run_fault_of errors.ReadFailed = None

-- what a failed read and a faulty script are called
abbrev pub of_read : ReadFault → RunFault
of_read reads.NoMemory = errors.NoMemory
of_read reads.Failed = errors.ReadFailed

abbrev pub of_script : ScriptFault → RunFault
of_script (scripts.BadScript number) = errors.BadScript number
of_script scripts.NoMemory = errors.NoMemory

-- the status that the program ends with
abbrev pub status_of : RunFault → ℕ
status_of (errors.BadScript number) = 1
status_of errors.BadDid = 1
status_of errors.Uneven = 1
status_of errors.NoMemory = 3
status_of errors.ReadFailed = 4

abbrev pub end_status : CommandFault RunFault → ℕ
end_status (ends.NoText fault) = status_of fault
end_status (ends.Unwritten fault) = write_status fault

-- a fault of the host
abbrev pub IsOfHost : RunFault → Type 0
IsOfHost fault = (fault ≡ errors.NoMemory) ⊎ (fault ≡ errors.Uneven)

-- a fault of the input
abbrev pub IsOfScript : RunFault → Type 0
IsOfScript (errors.BadScript number) = Unit {0}
IsOfScript errors.BadDid = ⊥
IsOfScript errors.Uneven = ⊥
IsOfScript errors.NoMemory = Unit {0}
IsOfScript errors.ReadFailed = Unit {0}

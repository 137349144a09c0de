-- Why a file was not saved.
use Rattle.std.specs.Prelude.{ℕ, List}
use Rattle.console.specs.Faults.{write_fault_text, write_status}
use Rattle.console.specs.Files.{open_fault_text, open_status}
use Rattle.console.specs.declared.save_fault.SaveFault.{SaveFault}
use Rattle.console.specs.declared.save_fault.SaveFault.TheVariants as faults

-- what standard error shows of it, behind the file's name
abbrev pub save_fault_text : SaveFault → List ℕ
save_fault_text (faults.Unopened f) = open_fault_text f
save_fault_text (faults.Unwritten f) = write_fault_text f

-- and the status that it ends with
abbrev pub save_status : SaveFault → ℕ
save_status (faults.Unopened f) = open_status f
save_status (faults.Unwritten f) = write_status f

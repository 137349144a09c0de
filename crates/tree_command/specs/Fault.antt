-- The definitions' faults that a program's fault is, but for want of memory and failed reads and writes, of which they
-- know nothing.
use Rattle.std.specs.Prelude.{ℕ, Option, Some, None}
use Rattle.tree_command.specs.TreeText as text
use Rattle.tree_command.specs.declared.fault.LineFault.{LineFault}
use Rattle.tree_command.specs.declared.fault.LineFault.TheVariants as lines
use Rattle.tree_command.specs.declared.fault.TreeFault.{TreeFault}
use Rattle.tree_command.specs.declared.fault.TreeFault.TheVariants as errors
use Rattle.console.specs.Faults.{write_status}
use Rattle.console.specs.declared.fault.CommandFault.{CommandFault}
use Rattle.console.specs.declared.fault.CommandFault.TheVariants as ends
use Rattle.console.specs.declared.reading.ReadFault.{ReadFault}
use Rattle.console.specs.declared.reading.ReadFault.TheVariants as reads

abbrev pub line_fault_of : LineFault → text.LineFault
line_fault_of lines.BadLine = text.BadLine
line_fault_of lines.BadKey = text.BadKey
line_fault_of lines.BadCid = text.BadCid

abbrev pub some_line_fault_of : LineFault → Option text.LineFault
some_line_fault_of f = Some (line_fault_of f)

abbrev pub tree_fault_of : TreeFault → Option text.TreeFault
tree_fault_of (errors.Line n f) = Some (text.Line n (line_fault_of f))
tree_fault_of errors.Clash = Some text.Clash
tree_fault_of errors.NoMemory = None
tree_fault_of errors.ReadFailed = None

-- what a failed read is called
abbrev pub of_read : ReadFault → TreeFault
of_read reads.NoMemory = errors.NoMemory
of_read reads.Failed = errors.ReadFailed

-- the status that the program ends with
abbrev pub status_of : TreeFault → ℕ
status_of (errors.Line n f) = 1
status_of errors.Clash = 1
status_of errors.NoMemory = 3
status_of errors.ReadFailed = 4

abbrev pub end_status : CommandFault TreeFault → ℕ
end_status (ends.NoText fault) = status_of fault
end_status (ends.Unwritten fault) = write_status fault

-- The definitions' fault that a fault is, but for want of memory, of which they know nothing; and the status that it ends with.
use Rattle.std.specs.Prelude.{ℕ, Option, Some, None, option_map}
use Rattle.spec.specs.Writes as writes
use Rattle.record_rules.specs.Faults.{record_fault_of}
use Rattle.export_commands.specs.Faults as export
use Rattle.tree_command.specs.Fault as tree
use Rattle.console.specs.Faults.{read_status}
use Rattle.difference_commands.specs.RecordLines as lines
use Rattle.difference_commands.specs.declared.line_fault.LineFault.{LineFault}
use Rattle.difference_commands.specs.declared.line_fault.LineFault.TheVariants as line_faults
use Rattle.difference_commands.specs.declared.lines_fault.LinesFault.{LinesFault}
use Rattle.difference_commands.specs.declared.lines_fault.LinesFault.TheVariants as lines_faults
use Rattle.difference_commands.specs.declared.file_fault.FileFault.{FileFault}
use Rattle.difference_commands.specs.declared.file_fault.FileFault.TheVariants as file_faults
use Rattle.difference_commands.specs.declared.trees.TreesFault.{TreesFault}
use Rattle.difference_commands.specs.declared.trees.TreesFault.TheVariants as trees_faults
use Rattle.difference_commands.specs.declared.fault.ChangesFault.{ChangesFault}
use Rattle.difference_commands.specs.declared.fault.ChangesFault.TheVariants as faults

abbrev pub line_fault_of : LineFault → Option lines.LineFault
line_fault_of line_faults.BadLine = Some lines.BadLine
line_fault_of line_faults.BadKey = Some (lines.OfWrite writes.BadKey)
line_fault_of (line_faults.Record f) = option_map lines.OfWrite (record_fault_of f)
line_fault_of line_faults.NoMemory = None

-- the first faulty line
abbrev pub lines_fault_of : LinesFault → Option lines.LinesFault
lines_fault_of (lines_faults.Line n f) = option_map (lines.Line n) (line_fault_of f)
lines_fault_of lines_faults.NoMemory = None

-- what a fault of both trees is called
abbrev pub of_trees : TreesFault → ChangesFault
of_trees trees_faults.Clash = faults.Clash
of_trees trees_faults.NoMemory = faults.NoMemory

-- ---- the status

abbrev pub line_status : Option lines.LineFault → ℕ
line_status (Some f) = 1
line_status None = 3

abbrev pub lines_status : LinesFault → ℕ
lines_status (lines_faults.Line n f) = line_status (line_fault_of f)
lines_status lines_faults.NoMemory = 3

abbrev pub file_status : FileFault → ℕ
file_status (file_faults.Export f) = export.status_of f
file_status (file_faults.Listing f) = tree.status_of f
file_status (file_faults.Records f) = lines_status f
file_status file_faults.NoRecords = 1

abbrev pub status_of : ChangesFault → ℕ
status_of (faults.Old f) = file_status f
status_of (faults.New f) = file_status f
status_of (faults.OldUnread f) = read_status f
status_of (faults.NewUnread f) = read_status f
status_of faults.Clash = 1
status_of faults.NoMemory = 3

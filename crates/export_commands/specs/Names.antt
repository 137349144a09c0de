-- The names of faults, as standard error shows them (a choice of this project): a fault inside a fault
-- stands in parentheses, and before that of a record stands its place among them, from 0.
use Rattle.std.specs.Prelude.{ℕ, List, ◌++◌, codes, decimal}
use Rattle.car_reader.specs.declared.fault.CarFault.{CarFault}
use Rattle.car_reader.specs.declared.fault.CarFault.TheVariants as cars
use Rattle.record_rules.specs.Names.{bad_record_name}
use Rattle.signed_commits.specs.declared.fault.CommitFault.{CommitFault}
use Rattle.signed_commits.specs.declared.fault.CommitFault.TheVariants as commits
use Rattle.repository_check.specs.declared.fault.RecordFault.{RecordFault}
use Rattle.repository_check.specs.declared.fault.RecordFault.TheVariants as records
use Rattle.repository_check.specs.declared.fault.CheckFault.{CheckFault}
use Rattle.repository_check.specs.declared.fault.CheckFault.TheVariants as checks
use Rattle.export_commands.specs.declared.fault.ExportFault.{ExportFault}
use Rattle.export_commands.specs.declared.fault.ExportFault.TheVariants as errors

abbrev pub car_fault_name : CarFault → List ℕ
car_fault_name cars.BadHeader = codes "Car(BadHeader)"
car_fault_name cars.BadLength = codes "Car(BadLength)"
car_fault_name cars.Truncated = codes "Car(Truncated)"
car_fault_name cars.BadCid = codes "Car(BadCid)"
car_fault_name cars.NoMemory = codes "Car(NoMemory)"

abbrev pub commit_fault_name : CommitFault → List ℕ
commit_fault_name commits.NotACommit = codes "Commit(NotACommit)"
commit_fault_name commits.BadDid = codes "Commit(BadDid)"
commit_fault_name commits.BadRev = codes "Commit(BadRev)"

abbrev pub record_fault_name : RecordFault → List ℕ
record_fault_name records.BadKey = codes "BadKey"
record_fault_name records.NoRecord = codes "NoRecord"
record_fault_name records.RecordSize = codes "RecordSize"
record_fault_name (records.BadRecord fault) = bad_record_name fault
record_fault_name records.NotAMap = codes "NotAMap"

-- what is said of the record at a place
abbrev pub of_record_at : ℕ → List ℕ → List ℕ
of_record_at place name = codes "record " ++ (decimal place ++ (codes ": " ++ name))

abbrev pub check_fault_name : CheckFault → List ℕ
check_fault_name (checks.Car fault) = car_fault_name fault
check_fault_name checks.Misnamed = codes "Misnamed"
check_fault_name checks.NoCommit = codes "NoCommit"
check_fault_name (checks.Commit fault) = commit_fault_name fault
check_fault_name checks.NotTheTree = codes "NotTheTree"
check_fault_name (checks.Record place fault) = of_record_at place (record_fault_name fault)
check_fault_name checks.NoMemory = codes "no memory"

abbrev pub fault_text : ExportFault → List ℕ
fault_text (errors.Check fault) = check_fault_name fault
fault_text (errors.NoJsonForm place) = of_record_at place (codes "NoJsonForm")
fault_text errors.ReadFailed = codes "read failed"

-- What is told of a file that a server exports.
use Rattle.std.specs.Prelude.{◌≡◌, ⊤, ℕ, ◌&&◌, ◌||◌, Bool, nat_eq, nat_le, List, ◌++◌, length, Result, Ok, Err, if◌then◌else◌}
use Rattle.sha2.specs.Sha256.{sha256}
use Rattle.spec.specs.Cid.{cid}
use Rattle.spec.specs.CarReading as cars
use Rattle.spec.specs.SignedCommits as commits
use Rattle.spec.specs.SignedCommits.{Commit, signed_bytes}
use Rattle.spec.specs.Exports as exports
use Rattle.spec.specs.Exports.{ExportFault, OfCar, Misnamed, NoCommit, OfCommit, NotTheTree, OfRecord, IsExport, IsFirstFault}
use Rattle.car_reader.specs.declared.fault.CarFault.{CarFault}
use Rattle.car_reader.specs.declared.fault.CarFault.TheVariants as car_faults
use Rattle.signed_commits.specs.declared.fault.CommitFault.{CommitFault}
use Rattle.signed_commits.specs.declared.fault.CommitFault.TheVariants as commit_faults
use Rattle.repository_check.specs.declared.fault.RecordFault.{RecordFault}
use Rattle.repository_check.specs.declared.fault.RecordFault.TheVariants as record_faults
use Rattle.repository_check.specs.declared.fault.CheckFault.{CheckFault}
use Rattle.repository_check.specs.declared.fault.CheckFault.TheVariants as faults
use Rattle.buffers.specs.Answers.{IsHanded, number_bytes, part_bytes}
use Rattle.tizulgech.specs.Numbers.{record_number, write_number}

-- ---- why a file is no export: the numbers of files, of signed commits, and of its records those of a batch

abbrev pub car_number : cars.CarFault → ℕ
car_number cars.BadHeader = 103
car_number cars.BadLength = 104
car_number cars.Truncated = 105
car_number cars.BadCid = 106

abbrev pub commit_number : commits.CommitFault → ℕ
commit_number commits.NotACommit = 100
commit_number commits.BadDid = 101
commit_number commits.BadRev = 102

abbrev pub record_fault_number : exports.RecordFault → ℕ
record_fault_number exports.NoRecord = 127
record_fault_number (exports.OfTest f) = write_number f

abbrev pub export_number : ExportFault → ℕ
export_number (OfCar f) = car_number f
export_number Misnamed = 123
export_number NoCommit = 124
export_number (OfCommit f) = commit_number f
export_number NotTheTree = 70
export_number (OfRecord place f) = record_fault_number f

-- of a record its place is told
abbrev pub IsPlaceOf : ExportFault → ℕ → Type 0
IsPlaceOf (OfCar f) place = ⊤
IsPlaceOf Misnamed place = ⊤
IsPlaceOf NoCommit place = ⊤
IsPlaceOf (OfCommit f) place = ⊤
IsPlaceOf NotTheTree place = ⊤
IsPlaceOf (OfRecord at f) place = place ≡ at

-- the numbers of a record's faults
abbrev pub tells_record : ℕ → Bool
tells_record n = (nat_le 1 n && nat_le n 13) || (nat_le 20 n && nat_le n 22) || nat_eq n 127

-- ---- the same of the code; 255 for want of memory

abbrev pub car_code : CarFault → ℕ
car_code car_faults.BadHeader = 103
car_code car_faults.BadLength = 104
car_code car_faults.Truncated = 105
car_code car_faults.BadCid = 106
car_code car_faults.NoMemory = 255

abbrev pub commit_code : CommitFault → ℕ
commit_code commit_faults.NotACommit = 100
commit_code commit_faults.BadDid = 101
commit_code commit_faults.BadRev = 102

abbrev pub record_fault_code : RecordFault → ℕ
record_fault_code record_faults.BadKey = 20
record_fault_code record_faults.NoRecord = 127
record_fault_code record_faults.RecordSize = 22
record_fault_code (record_faults.BadRecord f) = record_number f
record_fault_code record_faults.NotAMap = 21

abbrev pub check_code : CheckFault → ℕ
check_code (faults.Car f) = car_code f
check_code faults.Misnamed = 123
check_code faults.NoCommit = 124
check_code (faults.Commit f) = commit_code f
check_code faults.NotTheTree = 70
check_code (faults.Record place f) = record_fault_code f
check_code faults.NoMemory = 255

-- the place that stands there afterwards
abbrev pub place_after : CheckFault → ℕ → ℕ
place_after (faults.Car f) was = was
place_after faults.Misnamed was = was
place_after faults.NoCommit was = was
place_after (faults.Commit f) was = was
place_after faults.NotTheTree was = was
place_after (faults.Record place f) was = if nat_eq (record_fault_code f) 255 then was else place
place_after faults.NoMemory was = was

-- ---- what is told

-- of an export the CID of its signed commit, the root of its tree, the number of its records, and its DID and its revision, each
-- with its length in front
abbrev pub export_bytes : Commit → ℕ → List ℕ
export_bytes c count = cid sha256 (signed_bytes c) ++ c.root ++ number_bytes count ++ part_bytes c.did ++ part_bytes c.rev

-- the file is the export of this commit and these records, or this is its first fault
abbrev pub IsCheckOf : List ℕ → Result (Commit × List (List ℕ × List ℕ)) ExportFault → Type 0
IsCheckOf file (Ok r) = IsExport sha256 2 file r.0 r.1
IsCheckOf file (Err f) = IsFirstFault sha256 2 file f

abbrev pub IsCheckTold : ℕ → ℕ → List ℕ → List ℕ → ℕ → Result (Commit × List (List ℕ × List ℕ)) ExportFault → Type 0
IsCheckTold code place before room size (Ok r) = IsHanded code (export_bytes r.0 (length r.1)) before room size
IsCheckTold code place before room size (Err f) = (code ≡ export_number f) × IsPlaceOf f place

-- it is none: the number is that of its first fault, and the place that of its record
pub record IsNoExport (code place : ℕ) (file : List ℕ) : Type 0 where
  pub fault : ExportFault
  pub first : IsFirstFault sha256 2 file fault
  pub number_is : code ≡ export_number fault
  pub place_is : IsPlaceOf fault place

pub record IsChecked (code place : ℕ) (before room : List ℕ) (size : ℕ) (file : List ℕ) : Type 0 where
  pub result : Result (Commit × List (List ℕ × List ℕ)) ExportFault
  pub is : IsCheckOf file result
  pub told : IsCheckTold code place before room size result

-- What answers stand for, and the definitions' fault that a fault is.
use Rattle.std.specs.Prelude.{ℕ, List, Option, Some, None, map, option_map}
use Rattle.std.specs.Borrow.{Bor}
use Rattle.std.specs.declared.vec.Vec.{Vec}
use Rattle.spec.specs.Tree.{Pair}
use Rattle.spec.specs.Writes as writes
use Rattle.spec.specs.Exports as exports
use Rattle.dagcbor.specs.Fault.{cbor_fault_of}
use Rattle.car_reader.specs.Views.{car_fault_of}
use Rattle.signed_commits.specs.Views.{commit_fault_of}
use Rattle.repository_check.specs.declared.fault.RecordFault.{RecordFault}
use Rattle.repository_check.specs.declared.fault.RecordFault.TheVariants as errors
use Rattle.repository_check.specs.declared.fault.CheckFault.{CheckFault}
use Rattle.repository_check.specs.declared.fault.CheckFault.TheVariants as faults
use Rattle.repository_check.specs.declared.repository.Record.{Record}
use Rattle.repository_check.specs.declared.repository.Repository.{Repository}

abbrev pub record_fault_of : RecordFault → Option exports.RecordFault
record_fault_of errors.BadKey = Some (exports.OfTest writes.BadKey)
record_fault_of errors.NoRecord = Some exports.NoRecord
record_fault_of errors.RecordSize = Some (exports.OfTest writes.RecordSize)
record_fault_of (errors.BadRecord f) =
    option_map (λ g. exports.OfTest (writes.BadRecord g)) (cbor_fault_of f)
record_fault_of errors.NotAMap = Some (exports.OfTest writes.NotAMap)

-- of a want of memory the definitions know nothing
abbrev pub check_fault_of : CheckFault → Option exports.ExportFault
check_fault_of (faults.Car f) = option_map exports.OfCar (car_fault_of f)
check_fault_of faults.Misnamed = Some exports.Misnamed
check_fault_of faults.NoCommit = Some exports.NoCommit
check_fault_of (faults.Commit f) = option_map exports.OfCommit (commit_fault_of f)
check_fault_of faults.NotTheTree = Some exports.NotTheTree
check_fault_of (faults.Record place f) = option_map (exports.OfRecord place) (record_fault_of f)
check_fault_of faults.NoMemory = None

-- pairs that own their keys
abbrev pub pairs_of : {A : Type 0} → List (Vec ℕ A × List ℕ) → List Pair
pairs_of ps = map (λ p. (p.0.items, p.1)) ps

-- bytes that are lent
abbrev pub lent : List (Bor (List ℕ)) → List (List ℕ)
lent bs = map (λ b. b.now) bs

-- a record under its key
abbrev pub keyed_record : {A : Type 0} → Record A → List ℕ × List ℕ
keyed_record r = (r.key.items, r.bytes.now)

-- and its CID under its key
abbrev pub pair_of : {A : Type 0} → Record A → Pair
pair_of r = (r.key.items, r.cid)

-- the records, each under its key, and their CIDs
abbrev pub records_of : {A : Type 0} → Repository A → List (List ℕ × List ℕ)
records_of r = map keyed_record r.records.items

abbrev pub listed_pairs : {A : Type 0} → Repository A → List Pair
listed_pairs r = map pair_of r.records.items

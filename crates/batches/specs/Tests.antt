-- What the faults of this crate are to the definitions.
use Rattle.std.specs.Prelude.{◌≡◌, ⊤, Option, Some, None, option_map, Result, Err}
use Rattle.spec.specs.Stamps as stamps
use Rattle.spec.specs.Writes as writes
use Rattle.spec.specs.States.{BatchFault, EmptyBatch, OfStamp, OfWrite}
use Rattle.dagcbor.specs.Fault.{cbor_fault_of}
use Rattle.record_rules.specs.declared.fault.RecordFault.{RecordFault}
use Rattle.record_rules.specs.declared.fault.RecordFault.TheVariants as records
use Rattle.store.specs.declared.fault.StoreFault.{StoreFault}
use Rattle.store.specs.declared.fault.StoreFault.TheVariants as stores
use Rattle.batches.specs.declared.fault.RepoFault.{RepoFault}
use Rattle.batches.specs.declared.fault.RepoFault.TheVariants as faults

-- the fault of a batch's test; what comes of blocks and of memory is none
abbrev pub test_fault : {D A : Type 0} → RepoFault D A → Option BatchFault
test_fault faults.BadKey = Some (OfWrite writes.BadKey)
test_fault (faults.BadRecord f) = option_map (λ g. OfWrite (writes.BadRecord g)) (cbor_fault_of f)
test_fault faults.NotAMap = Some (OfWrite writes.NotAMap)
test_fault faults.RecordSize = Some (OfWrite writes.RecordSize)
test_fault faults.KeyExists = Some (OfWrite writes.KeyExists)
test_fault faults.NoSuchKey = Some (OfWrite writes.NoSuchKey)
test_fault faults.WritesFull = Some (OfWrite writes.WritesFull)
test_fault (faults.Collision pair) = None
test_fault faults.StoreFull = None
test_fault faults.NoMemory = None
test_fault faults.EmptyBatch = Some EmptyBatch
test_fault faults.BadDid = Some (OfStamp stamps.BadDid)
test_fault faults.BadRev = Some (OfStamp stamps.BadRev)
test_fault faults.RevOrder = Some (OfStamp stamps.RevOrder)

-- the fault of a stamp's test
abbrev pub stamp_fault : {D A : Type 0} → RepoFault D A → Option stamps.StampFault
stamp_fault faults.BadDid = Some stamps.BadDid
stamp_fault faults.BadRev = Some stamps.BadRev
stamp_fault faults.RevOrder = Some stamps.RevOrder
stamp_fault fault = None

-- the fault of a write's test
abbrev pub write_fault : {D A : Type 0} → RepoFault D A → Option writes.WriteFault
write_fault faults.BadKey = Some writes.BadKey
write_fault (faults.BadRecord f) = option_map writes.BadRecord (cbor_fault_of f)
write_fault faults.NotAMap = Some writes.NotAMap
write_fault faults.RecordSize = Some writes.RecordSize
write_fault faults.KeyExists = Some writes.KeyExists
write_fault faults.NoSuchKey = Some writes.NoSuchKey
write_fault faults.WritesFull = Some writes.WritesFull
write_fault fault = None

-- the test fails, and with this fault; one without a name is never its fault
abbrev pub IsNamed : {F : Type 0} → Result (Unit {0}) F → Option F → Type 0
IsNamed test None = ⊥
IsNamed test (Some fault) = test ≡ Err fault

-- the fault is the test's, or a want of memory
abbrev pub IsTestFault : {D A F : Type 0} → (RepoFault D A → Option F) → Result (Unit {0}) F
    → RepoFault D A → Type 0
IsTestFault name test faults.NoMemory = ⊤
IsTestFault name test fault = IsNamed test (name fault)

-- what a fault of the store is here
abbrev pub of_store : {D A : Type 0} → StoreFault D A → RepoFault D A
of_store (stores.Collision pair) = faults.Collision pair
of_store stores.Full = faults.StoreFull
of_store stores.NoMemory = faults.NoMemory

-- what a record's fault is here
abbrev pub of_record : {D A : Type 0} → RecordFault → RepoFault D A
of_record records.RecordSize = faults.RecordSize
of_record (records.BadRecord f) = faults.BadRecord f
of_record records.NotAMap = faults.NotAMap

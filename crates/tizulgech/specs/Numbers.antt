-- The numbers that calls answer.
use Rattle.std.specs.Prelude.{◌≡◌, ℕ, ◌||◌, Bool, false, nat_eq, if◌then◌else◌, List, [], ◌∷◌, Option, Some, None, Result, Ok, Err}
use Rattle.spec.specs.Head as cbor
use Rattle.spec.specs.Commits.{commit_bytes}
use Rattle.spec.specs.Stamps as stamps
use Rattle.spec.specs.Writes as writes
use Rattle.spec.specs.States.{BatchFault, EmptyBatch, OfStamp, OfWrite, state_test, state_root, state_commit}
use Rattle.spec.specs.Cid.{CidFault, BadLength, BadPrefix, BadLetter, BadBits, NotThisProfile}
use Rattle.sha2.specs.Sha256.{sha256}
use Rattle.owned_repo.specs.Owning.{Owned, applied, cleared, staged}
use Rattle.spec.specs.NodeFormat.{Entry}
use Rattle.spec.specs.Proof.{Place, Here, Below, Gap, place, ProofFault, BlockMissing, BadNode, TooDeep, KeyLength, verified}
use Rattle.export.specs.declared.proof_fault.ProofFault.{ProofFault as GivenProofFault}
use Rattle.export.specs.declared.proof_fault.ProofFault.TheVariants as proofs
use Rattle.buffers.specs.Answers.{IsHanded}
use Rattle.cid.specs.declared.cid_fault.CidFault.{CidFault as GivenCidFault}
use Rattle.cid.specs.declared.cid_fault.CidFault.TheVariants as cids
use Rattle.dagcbor.specs.declared.fault.CborFault.{CborFault}
use Rattle.dagcbor.specs.declared.fault.CborFault.TheVariants as errors
use Rattle.batches.specs.declared.fault.RepoFault.{RepoFault}
use Rattle.batches.specs.declared.fault.RepoFault.TheVariants as faults

-- ---- why bytes are no record: the place among the faults of DAG-CBOR, from 1 on

abbrev pub cbor_number : cbor.CborFault → ℕ
cbor_number cbor.Truncated = 1
cbor_number cbor.LongHead = 2
cbor_number cbor.Indefinite = 3
cbor_number cbor.BadTag = 4
cbor_number cbor.BadLink = 5
cbor_number cbor.KeyNotText = 6
cbor_number cbor.KeyOrder = 7
cbor_number cbor.BadUtf8 = 8
cbor_number cbor.Float = 9
cbor_number cbor.Simple = 10
cbor_number cbor.IntegerRange = 11
cbor_number cbor.TooDeep = 12
cbor_number cbor.Trailing = 13

-- 0 for a value, the fault's number for none
abbrev pub cbor_answer : {X : Type 0} → Result X cbor.CborFault → ℕ
cbor_answer (Ok x) = 0
cbor_answer (Err e) = cbor_number e

-- the number of a fault of the code; 255 for want of memory
abbrev pub record_number : CborFault → ℕ
record_number errors.Truncated = 1
record_number errors.LongHead = 2
record_number errors.Indefinite = 3
record_number errors.BadTag = 4
record_number errors.BadLink = 5
record_number errors.KeyNotText = 6
record_number errors.KeyOrder = 7
record_number errors.BadUtf8 = 8
record_number errors.Float = 9
record_number errors.Simple = 10
record_number errors.IntegerRange = 11
record_number errors.TooDeep = 12
record_number errors.Trailing = 13
record_number errors.NoMemory = 255

-- the number of what the code answered
abbrev pub record_code : {X : Type 0} → Result X CborFault → ℕ
record_code (Ok x) = 0
record_code (Err e) = record_number e

-- a number other than 255 is that of what the definition answers
abbrev pub IsRecordAnswer : {X : Type 0} → ℕ → Result X cbor.CborFault → Type 0
IsRecordAnswer n read = nat_eq n 255 ≡ false → n ≡ cbor_answer read

-- ---- why a text is no CID

-- 0 and the CID, or the place of the fault among those of a CID, from 1 on
abbrev pub IsCidRead : ℕ → List ℕ → Result (List ℕ) CidFault → Type 0
IsCidRead code out (Ok c) = (code ≡ 0) × (out ≡ c)
IsCidRead code out (Err BadLength) = code ≡ 1
IsCidRead code out (Err BadPrefix) = code ≡ 2
IsCidRead code out (Err BadLetter) = code ≡ 3
IsCidRead code out (Err BadBits) = code ≡ 4
IsCidRead code out (Err NotThisProfile) = code ≡ 5

-- the same of an answer of the code
abbrev pub IsCidTold : ℕ → List ℕ → Result (List ℕ) GivenCidFault → Type 0
IsCidTold code out (Ok c) = (code ≡ 0) × (out ≡ c)
IsCidTold code out (Err cids.BadLength) = code ≡ 1
IsCidTold code out (Err cids.BadPrefix) = code ≡ 2
IsCidTold code out (Err cids.BadLetter) = code ≡ 3
IsCidTold code out (Err cids.BadBits) = code ≡ 4
IsCidTold code out (Err cids.NotThisProfile) = code ≡ 5

-- ---- why a batch is refused

abbrev pub write_number : writes.WriteFault → ℕ
write_number writes.BadKey = 20
write_number (writes.BadRecord f) = cbor_number f
write_number writes.NotAMap = 21
write_number writes.RecordSize = 22
write_number writes.KeyExists = 23
write_number writes.NoSuchKey = 24
write_number writes.WritesFull = 25

abbrev pub stamp_number : stamps.StampFault → ℕ
stamp_number stamps.BadDid = 27
stamp_number stamps.BadRev = 28
stamp_number stamps.RevOrder = 29

-- 0 where a stamp passes its test
abbrev pub stamp_answer : Result (Unit {0}) stamps.StampFault → ℕ
stamp_answer (Ok ok) = 0
stamp_answer (Err f) = stamp_number f

-- the revision before, where no bytes say that there is none
abbrev pub last_rev : List ℕ → Option (List ℕ)
last_rev [] = None
last_rev (x ∷ xs) = Some (x ∷ xs)

abbrev pub batch_number : BatchFault → ℕ
batch_number EmptyBatch = 26
batch_number (OfStamp f) = stamp_number f
batch_number (OfWrite f) = write_number f

-- the number of a test, and the place of the write
abbrev pub tested : Result (Unit {0}) (ℕ × BatchFault) → ℕ × ℕ
tested (Ok ok) = (0, 0)
tested (Err f) = (batch_number f.1, f.0)

-- the number of a fault of the code: 253 for a clash, 254 for a full store, 255 for want of memory
abbrev pub fault_number : {D A : Type 0} → RepoFault D A → ℕ
fault_number faults.BadKey = 20
fault_number (faults.BadRecord f) = record_number f
fault_number faults.NotAMap = 21
fault_number faults.RecordSize = 22
fault_number faults.KeyExists = 23
fault_number faults.NoSuchKey = 24
fault_number faults.WritesFull = 25
fault_number (faults.Collision pair) = 253
fault_number faults.StoreFull = 254
fault_number faults.NoMemory = 255
fault_number faults.EmptyBatch = 26
fault_number faults.BadDid = 27
fault_number faults.BadRev = 28
fault_number faults.RevOrder = 29

-- the number and the place of what the code answered
abbrev pub batch_code : {D A X : Type 0} → Result X (ℕ × RepoFault D A) → ℕ × ℕ
batch_code (Ok x) = (0, 0)
batch_code (Err e) = (fault_number e.1, e.0)

-- a number that no test gives
abbrev pub is_other : ℕ → Bool
is_other n = nat_eq n 253 || nat_eq n 254 || nat_eq n 255

-- a number that a test gives is that of the first fault, with its place
abbrev pub IsTested : ℕ × ℕ → Result (Unit {0}) (ℕ × BatchFault) → Type 0
IsTested told test = is_other told.0 ≡ false → told ≡ tested test

-- ---- the write of a kind: 0 a put, 1 a create, 2 an update, 3 a delete

abbrev pub write_at : ℕ → List ℕ → List ℕ → Option writes.Write
write_at kind key bytes =
    if nat_eq kind 0 then Some (writes.Put key bytes)
    else if nat_eq kind 1 then Some (writes.Create key bytes)
    else if nat_eq kind 2 then Some (writes.Update key bytes)
    else if nat_eq kind 3 then Some (writes.Delete key)
    else None

-- 252 for a kind of which there is no write; else 0, and one more write waits
abbrev pub IsStaged : ℕ → Option writes.Write → Owned → Owned → Type 0
IsStaged code None o n = code ≡ 252
IsStaged code (Some w) o n = (code ≡ 0) × (n ≡ staged o w)

-- the number of a write's test, by whether there is a record under its key
abbrev pub test_answer : Result (Unit {0}) writes.WriteFault → ℕ
test_answer (Ok ok) = 0
test_answer (Err f) = write_number f

-- 252 for a kind of which there is no write
abbrev pub write_answer : Bool → Option writes.Write → ℕ
write_answer there None = 252
write_answer there (Some w) = test_answer (writes.test_when there w)

-- ---- bytes in a caller's room

-- bytes that there may be: 24 says that there are none
abbrev pub IsHandedIf : ℕ → Option (List ℕ) → List ℕ → List ℕ → ℕ → Type 0
IsHandedIf code None before room size = code ≡ 24
IsHandedIf code (Some bytes) before room size = IsHanded code bytes before room size

-- bytes for which memory may be refused: then the number is 255
abbrev pub IsHandedOr255 : ℕ → List ℕ → List ℕ → List ℕ → ℕ → Type 0
IsHandedOr255 code bytes before room size = nat_eq code 255 ≡ false → IsHanded code bytes before room size

-- 0 and the commit's CID, or 24 where there is none
abbrev pub IsCommit : ℕ → List ℕ → Option (List ℕ) → Type 0
IsCommit code room None = code ≡ 24
IsCommit code room (Some cid) = (code ≡ 0) × (room ≡ cid)

-- 252 for a root that is no CID, else the bytes of the commit
abbrev pub IsCommitted : ℕ → stamps.Stamp → Option (List ℕ) → List ℕ → List ℕ → ℕ → Type 0
IsCommitted code stamp None before room size = code ≡ 252
IsCommitted code stamp (Some root) before room size = IsHandedOr255 code (commit_bytes stamp root) before room size

-- ---- what a batch is answered

-- from a repository with waiting writes and a stamp to the repository after the call; the number,
-- the place, and the three CIDs that are told on 0
pub record IsApplyAnswer (o : Owned) (stamp : stamps.Stamp) (n : Owned) (code place : ℕ) (root previous commit : List ℕ) : Type 0 where
  pub accepted : code ≡ 0 → n ≡ applied o stamp
  pub refused : ¬ (code ≡ 0) → n ≡ cleared o
  pub tested : IsTested (code, place) (state_test o.state stamp o.pending)
  pub root_is : code ≡ 0 → root ≡ state_root sha256 2 n.state
  pub previous_is : code ≡ 0 → previous ≡ state_root sha256 2 o.state
  pub commit_is : code ≡ 0 → Some commit ≡ state_commit sha256 2 n.state

-- ---- where a key stands in a node

-- 0 and its value; 1 and the link below which it is; 24 where the node has no subtree there
abbrev pub IsStep : ℕ → List ℕ → Place → Type 0
IsStep code out (Here e) = (code ≡ 0) × (out ≡ e.value)
IsStep code out (Below c) = (code ≡ 1) × (out ≡ c)
IsStep code out Gap = code ≡ 24

-- the same of bytes that may be no node: then the number is 30
abbrev pub IsStepIn : {E : Type 0} → ℕ → List ℕ → List ℕ → Result (Option (List ℕ) × List Entry) E → Type 0
IsStepIn code out key (Err e) = code ≡ 30
IsStepIn code out key (Ok n) = IsStep code out (place key n.0 n.1)

-- ---- what blocks prove of a key under a root

-- 0 and the value's CID, 24 for none, or the fault's number
abbrev pub IsProof : ℕ → List ℕ → Result (Option (List ℕ)) ProofFault → Type 0
IsProof code out (Ok (Some c)) = (code ≡ 0) × (out ≡ c)
IsProof code out (Ok None) = code ≡ 24
IsProof code out (Err BlockMissing) = code ≡ 2
IsProof code out (Err (BadNode f)) = code ≡ 30
IsProof code out (Err TooDeep) = code ≡ 31
IsProof code out (Err KeyLength) = code ≡ 20

-- the same of an answer of the code
abbrev pub IsProofTold : ℕ → List ℕ → Result (Option (List ℕ)) GivenProofFault → Type 0
IsProofTold code out (Ok (Some c)) = (code ≡ 0) × (out ≡ c)
IsProofTold code out (Ok None) = code ≡ 24
IsProofTold code out (Err proofs.BlockMissing) = code ≡ 2
IsProofTold code out (Err (proofs.BadNode f)) = code ≡ 30
IsProofTold code out (Err proofs.TooDeep) = code ≡ 31
IsProofTold code out (Err proofs.KeyLength) = code ≡ 20

-- so it is of the blocks of a caller's list; 252 says that they are no list, or that the root is no CID
abbrev pub IsVerified : ℕ → List ℕ → Option (List ℕ) → Option (List (List ℕ)) → List ℕ → Type 0
IsVerified code out None given key = code ≡ 252
IsVerified code out (Some root) None key = code ≡ 252
IsVerified code out (Some root) (Some given) key = IsProof code out (verified sha256 2 root given key)

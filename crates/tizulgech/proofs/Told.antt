-- What the code answers is what the definition answers, but for what no test gives.
use Rattle.std.proofs.Common.{◌≡◌, ℕ, List, sym, ap, subst, false}
use Rattle.std.specs.Prelude.{Option, Some, None, Result, Ok, Err, IfErr, OnOk, nat_eq}
use Rattle.sha2.specs.Sha256.{sha256}
use Rattle.spec.specs.Head.{CborFault}
use Rattle.spec.specs.Reading.{Gives}
use Rattle.spec.specs.States.{State, state_test}
use Rattle.spec.specs.Stamps.{Stamp}
use Rattle.spec.specs.Writes.{Write, WriteFault}
use Rattle.dagcbor.specs.Fault.{cbor_fault_of}
use Rattle.dagcbor.specs.declared.fault.CborFault.{CborFault as Told}
use Rattle.dagcbor.specs.declared.fault.CborFault.TheVariants as errors
use Rattle.batches.specs.declared.fault.RepoFault.{RepoFault}
use Rattle.batches.specs.declared.fault.RepoFault.TheVariants as faults
use Rattle.repo.specs.Refusals.{IsRefusal}
use Rattle.spec.specs.Proof.{ProofFault}
use Rattle.export.specs.Faults.{proof_fault_of}
use Rattle.node.specs.declared.fault.NodeFault.TheVariants as nodes
use Rattle.export.specs.declared.proof_fault.ProofFault.{ProofFault as GivenProofFault}
use Rattle.export.specs.declared.proof_fault.ProofFault.TheVariants as proofs
use Rattle.batches.specs.Tests.{write_fault, IsTestFault}
use Rattle.tizulgech.specs.Numbers.{fault_number, test_answer, cbor_answer, record_code, IsRecordAnswer, batch_code, tested, IsTested, IsProof, IsProofTold, IsCidRead, IsCidTold}
use Rattle.spec.specs.Cid.{CidFault}
use Rattle.cid.specs.CidFault.{cid_fault_of}
use Rattle.cid.specs.declared.cid_fault.CidFault.{CidFault as GivenCidFault}
use Rattle.cid.specs.declared.cid_fault.CidFault.TheVariants as cids

pub record_told : {X Y : Type 0} (view : X → Y) (r : Result X Told) (read : Result Y CborFault) → Gives view cbor_fault_of r read → IsRecordAnswer (record_code r) read
record_told view (Ok x) read g _ = sym (ap cbor_answer g)
record_told view (Err errors.Truncated) read g _ = sym (ap cbor_answer g)
record_told view (Err errors.LongHead) read g _ = sym (ap cbor_answer g)
record_told view (Err errors.Indefinite) read g _ = sym (ap cbor_answer g)
record_told view (Err errors.BadTag) read g _ = sym (ap cbor_answer g)
record_told view (Err errors.BadLink) read g _ = sym (ap cbor_answer g)
record_told view (Err errors.KeyNotText) read g _ = sym (ap cbor_answer g)
record_told view (Err errors.KeyOrder) read g _ = sym (ap cbor_answer g)
record_told view (Err errors.BadUtf8) read g _ = sym (ap cbor_answer g)
record_told view (Err errors.Float) read g _ = sym (ap cbor_answer g)
record_told view (Err errors.Simple) read g _ = sym (ap cbor_answer g)
record_told view (Err errors.IntegerRange) read g _ = sym (ap cbor_answer g)
record_told view (Err errors.TooDeep) read g _ = sym (ap cbor_answer g)
record_told view (Err errors.Trailing) read g _ = sym (ap cbor_answer g)
record_told view (Err errors.NoMemory) read g p = absurd cc

pub batch_told : {D A X : Type 0} (s : State) (stamp : Stamp) (batch : List Write) (full fuller : ℕ) (r : Result X (ℕ × RepoFault D A))
    → OnOk r (state_test s stamp batch ≡ Ok tt) → IfErr r (IsRefusal sha256 2 s stamp batch full fuller) → IsTested (batch_code r) (state_test s stamp batch)
batch_told s stamp batch full fuller (Ok x) p h _ = sym (ap tested p)
batch_told s stamp batch full fuller (Err (i, faults.BadKey)) p h _ = sym (ap tested h)
batch_told s stamp batch full fuller (Err (i, faults.NotAMap)) p h _ = sym (ap tested h)
batch_told s stamp batch full fuller (Err (i, faults.RecordSize)) p h _ = sym (ap tested h)
batch_told s stamp batch full fuller (Err (i, faults.KeyExists)) p h _ = sym (ap tested h)
batch_told s stamp batch full fuller (Err (i, faults.NoSuchKey)) p h _ = sym (ap tested h)
batch_told s stamp batch full fuller (Err (i, faults.WritesFull)) p h _ = sym (ap tested h)
batch_told s stamp batch full fuller (Err (i, faults.EmptyBatch)) p h _ = sym (ap tested h)
batch_told s stamp batch full fuller (Err (i, faults.BadDid)) p h _ = sym (ap tested h)
batch_told s stamp batch full fuller (Err (i, faults.BadRev)) p h _ = sym (ap tested h)
batch_told s stamp batch full fuller (Err (i, faults.RevOrder)) p h _ = sym (ap tested h)
batch_told s stamp batch full fuller (Err (i, faults.BadRecord errors.Truncated)) p h _ = sym (ap tested h)
batch_told s stamp batch full fuller (Err (i, faults.BadRecord errors.LongHead)) p h _ = sym (ap tested h)
batch_told s stamp batch full fuller (Err (i, faults.BadRecord errors.Indefinite)) p h _ = sym (ap tested h)
batch_told s stamp batch full fuller (Err (i, faults.BadRecord errors.BadTag)) p h _ = sym (ap tested h)
batch_told s stamp batch full fuller (Err (i, faults.BadRecord errors.BadLink)) p h _ = sym (ap tested h)
batch_told s stamp batch full fuller (Err (i, faults.BadRecord errors.KeyNotText)) p h _ = sym (ap tested h)
batch_told s stamp batch full fuller (Err (i, faults.BadRecord errors.KeyOrder)) p h _ = sym (ap tested h)
batch_told s stamp batch full fuller (Err (i, faults.BadRecord errors.BadUtf8)) p h _ = sym (ap tested h)
batch_told s stamp batch full fuller (Err (i, faults.BadRecord errors.Float)) p h _ = sym (ap tested h)
batch_told s stamp batch full fuller (Err (i, faults.BadRecord errors.Simple)) p h _ = sym (ap tested h)
batch_told s stamp batch full fuller (Err (i, faults.BadRecord errors.IntegerRange)) p h _ = sym (ap tested h)
batch_told s stamp batch full fuller (Err (i, faults.BadRecord errors.TooDeep)) p h _ = sym (ap tested h)
batch_told s stamp batch full fuller (Err (i, faults.BadRecord errors.Trailing)) p h _ = sym (ap tested h)
batch_told s stamp batch full fuller (Err (i, faults.BadRecord errors.NoMemory)) p h _ = absurd h
batch_told s stamp batch full fuller (Err (i, faults.Collision pair)) p h o = absurd cc
batch_told s stamp batch full fuller (Err (i, faults.StoreFull)) p h o = absurd cc
batch_told s stamp batch full fuller (Err (i, faults.NoMemory)) p h o = absurd cc

pub proof_told : (code : ℕ) (out : List ℕ) (r : Result (Option (List ℕ)) GivenProofFault) (answer : Result (Option (List ℕ)) ProofFault) → IsProofTold code out r → Gives (λ v. v) proof_fault_of r answer → IsProof code out answer
proof_told code out (Ok (Some c)) answer t g = subst (IsProof code out) (sym g) t
proof_told code out (Ok None) answer t g = subst (IsProof code out) (sym g) t
proof_told code out (Err proofs.BlockMissing) answer t g = subst (IsProof code out) (sym g) t
proof_told code out (Err proofs.TooDeep) answer t g = subst (IsProof code out) (sym g) t
proof_told code out (Err proofs.KeyLength) answer t g = subst (IsProof code out) (sym g) t
proof_told code out (Err (proofs.BadNode nodes.NotNode)) answer t g = subst (IsProof code out) (sym g) t
proof_told code out (Err (proofs.BadNode nodes.BadPrefix)) answer t g = subst (IsProof code out) (sym g) t
proof_told code out (Err (proofs.BadNode nodes.KeyOrder)) answer t g = subst (IsProof code out) (sym g) t
proof_told code out (Err (proofs.BadNode nodes.KeyLength)) answer t g = subst (IsProof code out) (sym g) t

pub cid_told : (code : ℕ) (out : List ℕ) (r : Result (List ℕ) GivenCidFault) (answer : Result (List ℕ) CidFault) → IsCidTold code out r → Gives (λ v. v) cid_fault_of r answer → IsCidRead code out answer
cid_told code out (Ok c) answer t g = subst (IsCidRead code out) (sym g) t
cid_told code out (Err cids.BadLength) answer t g = subst (IsCidRead code out) (sym g) t
cid_told code out (Err cids.BadPrefix) answer t g = subst (IsCidRead code out) (sym g) t
cid_told code out (Err cids.BadLetter) answer t g = subst (IsCidRead code out) (sym g) t
cid_told code out (Err cids.BadBits) answer t g = subst (IsCidRead code out) (sym g) t
cid_told code out (Err cids.NotThisProfile) answer t g = subst (IsCidRead code out) (sym g) t

-- the fault of a write's test
pub write_told : {D A : Type 0} (fault : RepoFault D A) (test : Result (Unit {0}) WriteFault) → IsTestFault write_fault test fault
    → nat_eq (fault_number fault) 255 ≡ false → fault_number fault ≡ test_answer test
write_told faults.BadKey test h p = sym (ap test_answer h)
write_told faults.NotAMap test h p = sym (ap test_answer h)
write_told faults.RecordSize test h p = sym (ap test_answer h)
write_told faults.KeyExists test h p = sym (ap test_answer h)
write_told faults.NoSuchKey test h p = sym (ap test_answer h)
write_told faults.WritesFull test h p = sym (ap test_answer h)
write_told (faults.BadRecord errors.Truncated) test h p = sym (ap test_answer h)
write_told (faults.BadRecord errors.LongHead) test h p = sym (ap test_answer h)
write_told (faults.BadRecord errors.Indefinite) test h p = sym (ap test_answer h)
write_told (faults.BadRecord errors.BadTag) test h p = sym (ap test_answer h)
write_told (faults.BadRecord errors.BadLink) test h p = sym (ap test_answer h)
write_told (faults.BadRecord errors.KeyNotText) test h p = sym (ap test_answer h)
write_told (faults.BadRecord errors.KeyOrder) test h p = sym (ap test_answer h)
write_told (faults.BadRecord errors.BadUtf8) test h p = sym (ap test_answer h)
write_told (faults.BadRecord errors.Float) test h p = sym (ap test_answer h)
write_told (faults.BadRecord errors.Simple) test h p = sym (ap test_answer h)
write_told (faults.BadRecord errors.IntegerRange) test h p = sym (ap test_answer h)
write_told (faults.BadRecord errors.TooDeep) test h p = sym (ap test_answer h)
write_told (faults.BadRecord errors.Trailing) test h p = sym (ap test_answer h)
write_told (faults.BadRecord errors.NoMemory) test h p = absurd h
write_told (faults.Collision pair) test h p = absurd h
write_told faults.StoreFull test h p = absurd h
write_told faults.NoMemory test h p = absurd cc
write_told faults.EmptyBatch test h p = absurd h
write_told faults.BadDid test h p = absurd h
write_told faults.BadRev test h p = absurd h
write_told faults.RevOrder test h p = absurd h

-- Why a limit is told.
use Rattle.std.proofs.Common.{◌≡◌, ℕ, List, true, false, refl, sym, subst, arith}
use Rattle.std.specs.Prelude.{Result, Ok, Err, IfErr, nat_eq}
use Rattle.sha2.specs.Sha256.{sha256}
use Rattle.spec.specs.Stamps.{Stamp}
use Rattle.spec.specs.States.{State}
use Rattle.spec.specs.Writes.{Write}
use Rattle.store.specs.Shards.{WasFull}
use Rattle.dagcbor.specs.declared.fault.CborFault.TheVariants as errors
use Rattle.batches.specs.declared.fault.RepoFault.{RepoFault}
use Rattle.batches.specs.declared.fault.RepoFault.TheVariants as faults
use Rattle.repo.specs.BlockFaults.{IsBlockFault}
use Rattle.repo.specs.Fulls.{is_full}
use Rattle.repo.specs.Refusals.{IsRefusal}
use Rattle.tizulgech.specs.Causes.{HasCause, limit_number}
use Rattle.tizulgech.specs.Numbers.{IsHandedOr255, fault_number}
use Rattle.tizulgech.specs.Trees.{batch_number}

-- another number has none
pub no_limit : (code : ℕ) → nat_eq code 253 ≡ false → nat_eq code 254 ≡ false → HasCause code
no_limit code a b = record {
  clash = λ e. absurd (let no : nat_eq 253 253 ≡ false = subst (λ (n : ℕ). nat_eq n 253 ≡ false) e a in cc);
  full = λ e. absurd (let no : nat_eq 254 254 ≡ false = subst (λ (n : ℕ). nat_eq n 254 ≡ false) e b in cc);
}

-- bytes that are handed out, or a want of memory, meet none
pub handed_cause : (code : ℕ) (bytes before room : List ℕ) (size : ℕ) → IsHandedOr255 code bytes before room size → HasCause code
handed_cause code bytes before room size h = record {
  clash = λ e. absurd (let small = (h (subst (λ (n : ℕ). nat_eq n 255 ≡ false) (sym e) refl)).small (λ zero. omega (arith, e, zero)) in omega (arith, e, small.0));
  full = λ e. absurd (let small = (h (subst (λ (n : ℕ). nat_eq n 255 ≡ false) (sym e) refl)).small (λ zero. omega (arith, e, zero)) in omega (arith, e, small.0));
}

-- a fault of a batch has one, by its number
pub batch_cause : {D A X : Type 0} (s : State) (stamp : Stamp) (batch : List Write) (full fuller : ℕ) (r : Result X (ℕ × RepoFault D A))
    → IfErr r (IsRefusal sha256 2 s stamp batch full fuller) → IfErr r (λ e. is_full e.1 ≡ true → WasFull sha256 1048576)
    → IfErr r (λ e. HasCause (fault_number e.1))
batch_cause s stamp batch full fuller (Ok x) h f = tt
batch_cause s stamp batch full fuller (Err (i, faults.Collision pair)) h f =
    record { clash = λ _. record { pair = pair; clash = h.1.clash }; full = λ e. absurd (omega (arith, e)) }
batch_cause s stamp batch full fuller (Err (i, faults.StoreFull)) h f = record { clash = λ e. absurd (omega (arith, e)); full = λ _. f refl }
batch_cause s stamp batch full fuller (Err (i, faults.NoMemory)) h f = no_limit 255 refl refl
batch_cause s stamp batch full fuller (Err (i, faults.BadKey)) h f = no_limit 20 refl refl
batch_cause s stamp batch full fuller (Err (i, faults.NotAMap)) h f = no_limit 21 refl refl
batch_cause s stamp batch full fuller (Err (i, faults.RecordSize)) h f = no_limit 22 refl refl
batch_cause s stamp batch full fuller (Err (i, faults.KeyExists)) h f = no_limit 23 refl refl
batch_cause s stamp batch full fuller (Err (i, faults.NoSuchKey)) h f = no_limit 24 refl refl
batch_cause s stamp batch full fuller (Err (i, faults.WritesFull)) h f = no_limit 25 refl refl
batch_cause s stamp batch full fuller (Err (i, faults.EmptyBatch)) h f = no_limit 26 refl refl
batch_cause s stamp batch full fuller (Err (i, faults.BadDid)) h f = no_limit 27 refl refl
batch_cause s stamp batch full fuller (Err (i, faults.BadRev)) h f = no_limit 28 refl refl
batch_cause s stamp batch full fuller (Err (i, faults.RevOrder)) h f = no_limit 29 refl refl
batch_cause s stamp batch full fuller (Err (i, faults.BadRecord errors.Truncated)) h f = no_limit 1 refl refl
batch_cause s stamp batch full fuller (Err (i, faults.BadRecord errors.LongHead)) h f = no_limit 2 refl refl
batch_cause s stamp batch full fuller (Err (i, faults.BadRecord errors.Indefinite)) h f = no_limit 3 refl refl
batch_cause s stamp batch full fuller (Err (i, faults.BadRecord errors.BadTag)) h f = no_limit 4 refl refl
batch_cause s stamp batch full fuller (Err (i, faults.BadRecord errors.BadLink)) h f = no_limit 5 refl refl
batch_cause s stamp batch full fuller (Err (i, faults.BadRecord errors.KeyNotText)) h f = no_limit 6 refl refl
batch_cause s stamp batch full fuller (Err (i, faults.BadRecord errors.KeyOrder)) h f = no_limit 7 refl refl
batch_cause s stamp batch full fuller (Err (i, faults.BadRecord errors.BadUtf8)) h f = no_limit 8 refl refl
batch_cause s stamp batch full fuller (Err (i, faults.BadRecord errors.Float)) h f = no_limit 9 refl refl
batch_cause s stamp batch full fuller (Err (i, faults.BadRecord errors.Simple)) h f = no_limit 10 refl refl
batch_cause s stamp batch full fuller (Err (i, faults.BadRecord errors.IntegerRange)) h f = no_limit 11 refl refl
batch_cause s stamp batch full fuller (Err (i, faults.BadRecord errors.TooDeep)) h f = no_limit 12 refl refl
batch_cause s stamp batch full fuller (Err (i, faults.BadRecord errors.Trailing)) h f = no_limit 13 refl refl
batch_cause s stamp batch full fuller (Err (i, faults.BadRecord errors.NoMemory)) h f = no_limit 255 refl refl

pub told_cause : (code number : ℕ) → code ≡ number → HasCause number → HasCause code
told_cause code number is h = subst HasCause (sym is) h

-- a fault of the one batch of a listing
pub filed_cause : {D A : Type 0} (code : ℕ) (s : State) (stamp : Stamp) (batch : List Write) (full fuller : ℕ) (i : ℕ) (fault : RepoFault D A)
    → code ≡ batch_number fault → IsRefusal sha256 2 s stamp batch full fuller (i, fault) → (is_full fault ≡ true → WasFull sha256 1048576)
    → HasCause code
filed_cause code s stamp batch full fuller i fault is h f = told_cause code (batch_number fault) is (by fault h f)
  where
    by : {D A : Type 0} (fault : RepoFault D A) → IsRefusal sha256 2 s stamp batch full fuller (i, fault) → (is_full fault ≡ true → WasFull sha256 1048576)
        → HasCause (batch_number fault)
    by (faults.Collision pair) h f = record { clash = λ _. record { pair = pair; clash = h.1.clash }; full = λ e. absurd (omega (arith, e)) }
    by faults.StoreFull h f = record { clash = λ e. absurd (omega (arith, e)); full = λ _. f refl }
    by faults.NoMemory h f = no_limit 255 refl refl
    by faults.BadKey h f = no_limit 32 refl refl
    by faults.NotAMap h f = no_limit 32 refl refl
    by faults.RecordSize h f = no_limit 32 refl refl
    by faults.KeyExists h f = no_limit 32 refl refl
    by faults.NoSuchKey h f = no_limit 32 refl refl
    by faults.WritesFull h f = no_limit 32 refl refl
    by faults.EmptyBatch h f = no_limit 32 refl refl
    by faults.BadDid h f = no_limit 32 refl refl
    by faults.BadRev h f = no_limit 32 refl refl
    by faults.RevOrder h f = no_limit 32 refl refl
    by (faults.BadRecord e) h f = no_limit 32 refl refl

-- why a repository isn't opened
pub opening_cause : {D A : Type 0} (code : ℕ) (bs : List (List ℕ)) (full fuller : ℕ) (fault : RepoFault D A) → code ≡ limit_number fault
    → IsBlockFault sha256 bs full fuller fault → (is_full fault ≡ true → WasFull sha256 1048576) → HasCause code
opening_cause code bs full fuller fault is h f = told_cause code (limit_number fault) is (by fault h f)
  where
    by : {D A : Type 0} (fault : RepoFault D A) → IsBlockFault sha256 bs full fuller fault → (is_full fault ≡ true → WasFull sha256 1048576)
        → HasCause (limit_number fault)
    by (faults.Collision pair) h f = record { clash = λ _. record { pair = pair; clash = h.clash }; full = λ e. absurd (omega (arith, e)) }
    by faults.StoreFull h f = record { clash = λ e. absurd (omega (arith, e)); full = λ _. f refl }
    by faults.NoMemory h f = no_limit 255 refl refl
    by faults.BadKey h f = no_limit 255 refl refl
    by faults.NotAMap h f = no_limit 255 refl refl
    by faults.RecordSize h f = no_limit 255 refl refl
    by faults.KeyExists h f = no_limit 255 refl refl
    by faults.NoSuchKey h f = no_limit 255 refl refl
    by faults.WritesFull h f = no_limit 255 refl refl
    by faults.EmptyBatch h f = no_limit 255 refl refl
    by faults.BadDid h f = no_limit 255 refl refl
    by faults.BadRev h f = no_limit 255 refl refl
    by faults.RevOrder h f = no_limit 255 refl refl
    by (faults.BadRecord e) h f = no_limit 255 refl refl

-- Why a command wrote no text, or not all of it.
use Rattle.std.specs.Prelude.{◌≡◌, ℕ, List, Option, Some, Result, Ok, Err, MatchResult, codes}
use Rattle.std.specs.Io.KnownBytes.{Appends}
use Rattle.console.specs.Written.{AppendsBeginning}
use Rattle.console.specs.declared.fault.CommandFault.{CommandFault}
use Rattle.console.specs.declared.fault.CommandFault.TheVariants as errors
use Rattle.console.specs.declared.reading.ReadFault.{ReadFault}
use Rattle.console.specs.declared.reading.ReadFault.TheVariants as reads
use Rattle.console.specs.declared.writing.WriteFault.{WriteFault}
use Rattle.console.specs.declared.writing.WriteFault.TheVariants as writes

-- what standard error shows of a failed read and of a failed write
abbrev pub read_fault_text : ReadFault → List ℕ
read_fault_text reads.NoMemory = codes "no memory"
read_fault_text reads.Failed = codes "read failed"

abbrev pub write_fault_text : WriteFault → List ℕ
write_fault_text writes.NoMemory = codes "no memory"
write_fault_text writes.Failed = codes "write failed"

-- and the statuses that they end with
abbrev pub read_status : ReadFault → ℕ
read_status reads.NoMemory = 3
read_status reads.Failed = 4

abbrev pub write_status : WriteFault → ℕ
write_status writes.NoMemory = 3
write_status writes.Failed = 4

-- what is shown of a command's fault, where this is what is shown of its text's
abbrev pub shown : {F : Type 0} → (F → Option (List ℕ)) → CommandFault F → Option (List ℕ)
shown text (errors.NoText fault) = text fault
shown text (errors.Unwritten fault) = Some (write_fault_text fault)

-- a writer failed, and its known contents grew by a beginning of a text
abbrev pub IsCutOff : {F : Type 0} → Option (List ℕ) → Option (List ℕ) → List ℕ → CommandFault F → Type 0
IsCutOff old new text (errors.NoText fault) = ⊥
IsCutOff old new text (errors.Unwritten fault) = AppendsBeginning old new text

-- What was written of a text that was made: all of it, or a beginning where writing failed; and nothing
-- where none was made, whose fault is told.
abbrev pub IsWritten : {X F : Type 0} → (X → List ℕ) → Result X F → Option (List ℕ) → Option (List ℕ)
    → Result (Unit {0}) (CommandFault F) → Type 0
IsWritten view (Ok made) old new result =
    MatchResult result (λ _. Appends old new (view made)) (IsCutOff old new (view made))
IsWritten view (Err fault) old new result = (result ≡ Err (errors.NoText fault)) × (new ≡ old)

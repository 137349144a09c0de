-- How a command on an export ends.
use Rattle.std.specs.Prelude.{◌≡◌, ◌⊎◌, ◌≤◌, ℕ, Bool, true, false, List, Option, Some, None}
use Rattle.std.specs.Prelude.{Result, Ok, Err}
use Rattle.std.specs.Prelude.{is_some, IfSome, IfErr}
use Rattle.std.specs.Io.KnownBytes.{Appends, IsAtEnd, Keeps}
use Rattle.spec.specs.SignedCommits.{Commit}
use Rattle.spec.specs.Exports.{IsExport, IsFirstFault}
use Rattle.spec.specs.Exports as exports
use Rattle.repository_check.specs.declared.fault.CheckFault.TheVariants as checks
use Rattle.console.specs.Written.{AppendsBeginning, AppendsText}
use Rattle.console.specs.declared.fault.CommandFault.{CommandFault}
use Rattle.console.specs.declared.fault.CommandFault.TheVariants as ends
use Rattle.export_commands.specs.Faults.{export_fault_of}
use Rattle.export_commands.specs.Texts.{Records, export_text}
use Rattle.export_commands.specs.declared.command.ExportCommand.{ExportCommand}
use Rattle.export_commands.specs.declared.fault.ExportFault.{ExportFault}
use Rattle.export_commands.specs.declared.fault.ExportFault.TheVariants as errors

-- ---- of a text that is known

-- a beginning of it was written, if there is one
abbrev pub BeginsText : Option (List ℕ) → Option (List ℕ) → Result (List ℕ) ℕ → Type 0
BeginsText old new (Ok text) = AppendsBeginning old new text
BeginsText old new (Err place) = ⊥

-- why it wasn't told: memory was refused; or there is none, by the record at this place
abbrev pub IsUntold : Result (List ℕ) ℕ → ExportFault → Type 0
IsUntold text (errors.Check f) = f ≡ checks.NoMemory
IsUntold text (errors.NoJsonForm place) = text ≡ Err place
IsUntold text errors.ReadFailed = ⊥

-- it was written; or nothing was; or a beginning of it was, as writing failed
abbrev pub IsTold : Result (List ℕ) ℕ → Option (List ℕ) → Option (List ℕ)
    → Result (Unit {0}) (CommandFault ExportFault) → Type 0
IsTold text old new (Ok done) = AppendsText old new text
IsTold text old new (Err (ends.NoText fault)) = IsUntold text fault × (new ≡ old)
IsTold text old new (Err (ends.Unwritten fault)) = BeginsText old new text

-- whether a place is the first at which there is no word was tested, but for want of memory
abbrev pub IsTestOf : Option ℕ → Result (Unit {0}) ExportFault → Type 0
IsTestOf place (Ok ok) = place ≡ None
IsTestOf place (Err (errors.Check f)) = f ≡ checks.NoMemory
IsTestOf place (Err (errors.NoJsonForm i)) = place ≡ Some i
IsTestOf place (Err errors.ReadFailed) = ⊥

-- ---- of a file

-- it is the export of a repository, of which the command tells this text
pub record IsTextOf (digest : List ℕ → List ℕ) (command : ExportCommand) (file text : List ℕ)
    : Type 0 where
  pub commit : Commit
  pub records : Records
  pub export : IsExport digest 2 file commit records
  pub is : export_text digest command commit records ≡ Ok text

-- a writer's known contents grew by that text
pub record AppendsTextOf (digest : List ℕ → List ℕ) (command : ExportCommand) (file : List ℕ)
    (old new : Option (List ℕ)) : Type 0 where
  pub text : List ℕ
  pub of_file : IsTextOf digest command file text
  pub written : Appends old new text

-- or by a beginning of it
pub record BeginsTextOf (digest : List ℕ → List ℕ) (command : ExportCommand) (file : List ℕ)
    (old new : Option (List ℕ)) : Type 0 where
  pub text : List ℕ
  pub of_file : IsTextOf digest command file text
  pub written : AppendsBeginning old new text

-- it is the export of a repository, of which the record at this place hasn't what is to be told of it, as
-- the first one
pub record HasNoTextAt (digest : List ℕ → List ℕ) (command : ExportCommand) (file : List ℕ)
    (place : ℕ) : Type 0 where
  pub commit : Commit
  pub records : Records
  pub export : IsExport digest 2 file commit records
  pub untold : export_text digest command commit records ≡ Err place

-- what a fault says of the file: that it is the first one, or which record has no JSON
abbrev pub IsFaultOf : (List ℕ → List ℕ) → ExportCommand → List ℕ → ExportFault → Type 0
IsFaultOf digest command file (errors.Check f) =
    IfSome (export_fault_of (errors.Check f)) (IsFirstFault digest 2 file)
IsFaultOf digest command file (errors.NoJsonForm place) = HasNoTextAt digest command file place
IsFaultOf digest command file errors.ReadFailed = Unit {0}

-- A command ended so on a file, with a writer's known contents before and after: the text of the
-- repository that it is the export of was written; or the fault is right, and nothing was written; or
-- writing failed on the way.
abbrev pub IsOutcomeOf : (List ℕ → List ℕ) → ExportCommand → List ℕ → Option (List ℕ)
    → Option (List ℕ) → Result (Unit {0}) (CommandFault ExportFault) → Type 0
IsOutcomeOf digest command file old new (Ok done) = AppendsTextOf digest command file old new
IsOutcomeOf digest command file old new (Err (ends.NoText fault)) =
    IsFaultOf digest command file fault × (new ≡ old)
IsOutcomeOf digest command file old new (Err (ends.Unwritten fault)) =
    BeginsTextOf digest command file old new

-- ---- of an input that is known or not

-- what ended so was read: it was told, or a fault of the file is
abbrev pub is_of_file : ExportFault → Bool
is_of_file (errors.Check f) = is_some (export_fault_of (errors.Check f))
is_of_file (errors.NoJsonForm place) = true
is_of_file errors.ReadFailed = false

abbrev pub is_judged : Result (Unit {0}) (CommandFault ExportFault) → Bool
is_judged (Ok done) = true
is_judged (Err (ends.NoText fault)) = is_of_file fault
is_judged (Err (ends.Unwritten fault)) = true

-- where there is no text, the known contents stayed
abbrev pub KeepsWithoutText : Option (List ℕ) → Option (List ℕ) → CommandFault ExportFault → Type 0
KeepsWithoutText old new (ends.NoText fault) = Keeps old new
KeepsWithoutText old new (ends.Unwritten fault) = Unit {0}

-- A command ended so, with what is left of the input: as it ends on the file that the input is; all of
-- that was read before it was judged; and where there is no text nothing was written.
pub record IsOutcome (digest : List ℕ → List ℕ) (command : ExportCommand)
    (input left old new : Option (List ℕ)) (result : Result (Unit {0}) (CommandFault ExportFault))
    : Type 0 where
  pub of_file : IfSome input (λ file. IsOutcomeOf digest command file old new result)
  pub read : is_judged result ≡ true → IsAtEnd left
  pub nothing : IfErr result (KeepsWithoutText old new)

-- ---- the exit status

-- the file has a first fault, or a record hasn't what is to be told of it
abbrev pub HasFault : (List ℕ → List ℕ) → ExportCommand → List ℕ → Type 0
HasFault digest command file =
    ((fault : exports.ExportFault) × IsFirstFault digest 2 file fault)
    ⊎ ((place : ℕ) × HasNoTextAt digest command file place)

-- At 0 the text of the repository that the file is the export of was written; at 1 the file has a
-- fault, or a record that can't be told, and nothing was. At any, nothing was or a beginning of that text.
pub record IsStatusOf (digest : List ℕ → List ℕ) (command : ExportCommand)
    (input old new : Option (List ℕ)) (status : ℕ) : Type 0 where
  pub one_of : status ≤ 4
  pub done : status ≡ 0 → IfSome input (λ file. AppendsTextOf digest command file old new)
  pub faulty : status ≡ 1 → IfSome input (HasFault digest command)
  pub nothing : status ≡ 1 → Keeps old new
  pub usage : (status ≡ 2) → ⊥
  pub beginning : IfSome input (λ file. Keeps old new ⊎ BeginsTextOf digest command file old new)

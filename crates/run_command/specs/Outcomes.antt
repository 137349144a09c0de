-- How a run ends.
use Rattle.std.specs.Prelude.{◌≡◌, ◌≤◌, ◌⊎◌, ℕ, true, false, List, Option, Result, Ok, Err, is_ok, IfSome}
use Rattle.std.specs.Io.KnownBytes.{Appends, Keeps}
use Rattle.spec.specs.Reading.{Fails}
use Rattle.spec.specs.Stamps.{is_did}
use Rattle.console.specs.Written.{AppendsBeginning}
use Rattle.console.specs.declared.fault.CommandFault.{CommandFault}
use Rattle.console.specs.declared.fault.CommandFault.TheVariants as ends
use Rattle.scripts.specs.declared.script.Line.{Line}
use Rattle.run_command.specs.Script.{script_in}
use Rattle.run_command.specs.Views.{view_of_lines}
use Rattle.run_command.specs.Faults.{end_status, run_fault_of}
use Rattle.run_command.specs.Reports.{IsReport, IsUnclosed}
use Rattle.run_command.specs.declared.fault.RunFault.{RunFault}
use Rattle.run_command.specs.declared.fault.RunFault.TheVariants as errors
use Rattle.run_command.specs.declared.settings.Settings.{Settings}

-- the input is a script, and the text is the report of a run of its lines
abbrev pub IsReportOn : (D : Type 0) → (List ℕ → List ℕ) → Settings → List ℕ → List ℕ → List ℕ → Type 0
IsReportOn D digest s did input text = (lines : List Line)
    × (script_in s.workers did input ≡ Ok (view_of_lines lines))
    × IsReport D digest s lines text

-- the input is a script, and the host whose workers did its lines didn't close
abbrev pub IsUnclosedOn : (D : Type 0) → (List ℕ → List ℕ) → Settings → List ℕ → List ℕ → Type 0
IsUnclosedOn D digest s did input = (lines : List Line)
    × (script_in s.workers did input ≡ Ok (view_of_lines lines)) × IsUnclosed D digest s lines

-- a writer's known contents grew by such a report
abbrev pub Reports : (D : Type 0) → (List ℕ → List ℕ) → Settings → List ℕ → Option (List ℕ)
    → Option (List ℕ) → List ℕ → Type 0
Reports D digest s did old new input = (text : List ℕ) × IsReportOn D digest s did input text
    × Appends old new text

-- they grew by a beginning of one
abbrev pub ReportsBeginning : (D : Type 0) → (List ℕ → List ℕ) → Settings → List ℕ
    → Option (List ℕ) → Option (List ℕ) → List ℕ → Type 0
ReportsBeginning D digest s did old new input = (text : List ℕ)
    × IsReportOn D digest s did input text × AppendsBeginning old new text

-- A run has this report: the DID is lawful, and the input, where it is known, a script of which it is the report.
pub record IsReported (D : Type 0) (digest : List ℕ → List ℕ) (s : Settings) (did : List ℕ)
    (input : Option (List ℕ)) (text : List ℕ) : Type 0 where
  pub lawful_did : is_did did ≡ true
  pub report : IfSome input (λ xs. IsReportOn D digest s did xs text)

-- A run has no report, for this reason: a faulty line is the first; where the host didn't close there is
-- what doesn't agree, and so a script; and a faulty DID is always told, and none else.
pub record IsUnreported (D : Type 0) (digest : List ℕ → List ℕ) (s : Settings) (did : List ℕ)
    (input : Option (List ℕ)) (fault : RunFault) : Type 0 where
  pub of_script : IfSome input (λ xs. Fails (run_fault_of fault) (script_in s.workers did xs))
  pub uneven : fault ≡ errors.Uneven → IfSome input (IsUnclosedOn D digest s did)
  pub bad_did : fault ≡ errors.BadDid → is_did did ≡ false
  pub no_did : is_did did ≡ false → fault ≡ errors.BadDid

-- A run ended so, on an input that is known or not, and with a writer's known contents before and after:
-- what it wrote is the report of a run of the script that the input is; or there is none, for this reason,
-- and nothing was written; or a write failed, and a beginning of such a report was written.
abbrev pub IsOutcome : (D : Type 0) → (List ℕ → List ℕ) → Settings → List ℕ → Option (List ℕ)
    → Option (List ℕ) → Option (List ℕ) → Result (Unit {0}) (CommandFault RunFault) → Type 0
IsOutcome D digest s did input old new (Ok ok) =
    (is_did did ≡ true) × IfSome input (Reports D digest s did old new)
IsOutcome D digest s did input old new (Err (ends.NoText fault)) =
    IsUnreported D digest s did input fault × Keeps old new
IsOutcome D digest s did input old new (Err (ends.Unwritten fault)) =
    (is_did did ≡ true) × IfSome input (ReportsBeginning D digest s did old new)

-- why a run has no report: the DID is none, the input no script, or the host didn't close
abbrev pub IsFaulty : (D : Type 0) → (List ℕ → List ℕ) → Settings → List ℕ → List ℕ → Type 0
IsFaulty D digest s did input = (is_did did ≡ false)
    ⊎ ((is_ok (script_in s.workers did input) ≡ false) ⊎ IsUnclosedOn D digest s did input)

-- The exit status of a run. At 0 the report of a run of the script was written. At 1 the DID or a line
-- is faulty, or the host didn't close, and nothing was written. A faulty DID always ends with 1. At each
-- status nothing or a beginning of a report was written.
pub record IsStatusOf (D : Type 0) (digest : List ℕ → List ℕ) (s : Settings) (did : List ℕ)
    (input old new : Option (List ℕ)) (status : ℕ) : Type 0 where
  pub one_of : status ≤ 4
  pub done : status ≡ 0 → IfSome input (Reports D digest s did old new)
  pub faulty : status ≡ 1 → IfSome input (IsFaulty D digest s did)
  pub nothing : status ≡ 1 → Keeps old new
  pub no_did : is_did did ≡ false → status ≡ 1
  pub beginning : IfSome input (λ xs. Keeps old new ⊎ ReportsBeginning D digest s did old new xs)
  pub usage : (status ≡ 2) → ⊥

-- the status that a run which ended so has, once what was written reached the writer's end
abbrev pub IsStatusAfter : Result (Unit {0}) (CommandFault RunFault) → Option (List ℕ)
    → Option (List ℕ) → ℕ → Type 0
IsStatusAfter (Ok ok) old new status = ((status ≡ 0) ⊎ (status ≡ 4)) × Keeps old new
IsStatusAfter (Err fault) old new status = (status ≡ end_status fault) × (new ≡ old)

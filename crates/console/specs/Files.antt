-- The files that words of a command line name.
use Rattle.std.specs.Prelude.{ℕ, List, Option, Some, None, codes}
use Rattle.console.specs.declared.files.OpenFault.{OpenFault}
use Rattle.console.specs.declared.files.OpenFault.TheVariants as faults

-- what standard error shows of a file that can't be opened, behind its name
abbrev pub open_fault_text : OpenFault → List ℕ
open_fault_text faults.NotFound = codes "not found"
open_fault_text faults.Denied = codes "permission denied"
open_fault_text faults.Directory = codes "is a directory"
open_fault_text faults.NoMemory = codes "no memory"
open_fault_text faults.Failed = codes "open failed"

-- and the status that it ends with
abbrev pub open_status : OpenFault → ℕ
open_status faults.NoMemory = 3
open_status _ = 4

-- What a command reads where its words name this file, or none: what the file holds, as far as that is
-- known, and else the input.
abbrev pub file_or_input : Option (List ℕ) → (List ℕ → Option (List ℕ)) → Option (List ℕ) → Option (List ℕ)
file_or_input None holds input = input
file_or_input (Some name) holds input = holds name

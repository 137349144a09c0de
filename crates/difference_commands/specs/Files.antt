-- What a file says, in its form, and why it says nothing.
use Rattle.std.specs.Prelude.{◌≡◌, ℕ, Bool, true, false, List, [], map, Option, Some, None, Ok}
use Rattle.spec.specs.Reading.{Fails}
use Rattle.spec.specs.Tree.{Pair}
use Rattle.spec.specs.Blocks.{pairs}
use Rattle.spec.specs.SignedCommits.{Commit, signed_bytes}
use Rattle.signed_commits.specs.Views.{commit_of}
use Rattle.spec.specs.Exports.{IsExport}
use Rattle.repository_check.specs.Views.{listed_pairs, records_of}
use Rattle.export_commands.specs.Outcomes.{IsFaultOf}
use Rattle.export_commands.specs.declared.command.ExportCommand.TheVariants as exports
use Rattle.tree_command.specs.Fault.{tree_fault_of}
use Rattle.tree_command.specs.TreeText.{map_of_input}
use Rattle.tree_command.specs.declared.keys.Keys.TheVariants as keys
use Rattle.difference_commands.specs.RecordLines.{map_of_records}
use Rattle.export_commands.specs.Texts.{Records}
use Rattle.difference_commands.specs.Views.{keyed}
use Rattle.difference_commands.specs.Faults.{lines_fault_of}
use Rattle.difference_commands.specs.declared.command.ChangesCommand.{ChangesCommand}
use Rattle.difference_commands.specs.declared.command.Form.{Form}
use Rattle.difference_commands.specs.declared.command.Form.TheVariants as forms
use Rattle.difference_commands.specs.declared.command.Values.{Values}
use Rattle.difference_commands.specs.declared.command.Values.TheVariants as values
use Rattle.difference_commands.specs.declared.contents.Contents.{Contents}
use Rattle.difference_commands.specs.declared.contents.Contents.TheVariants as contents
use Rattle.difference_commands.specs.declared.file_fault.FileFault.{FileFault}
use Rattle.difference_commands.specs.declared.file_fault.FileFault.TheVariants as errors

-- no bytes stand for the records that a listing doesn't have
abbrev pub without_records : List Pair → Records
without_records es = map (λ e. (e.0, [])) es

-- the records themselves are told, or come as blocks, and not their CIDs alone
abbrev pub needs_records_for : Bool → Values → Bool
needs_records_for blocks values.Cids = blocks
needs_records_for blocks values.Records = true

abbrev pub needs_records : ChangesCommand → Bool
needs_records command = needs_records_for command.blocks command.values

-- A file of this form says these pairs and these records: a CAR is the export of a repository with these records; the lines of a
-- listing leave the pairs, and it says nothing where records are needed; lines of records leave these.
abbrev pub Says : (List ℕ → List ℕ) → ChangesCommand → Form → List ℕ → List Pair → Records → Type 0
Says digest asked forms.Car file es m = ((c : Commit) × IsExport digest 2 file c m) × (es ≡ pairs digest m)
Says digest asked forms.Listing file es m =
    (needs_records asked ≡ false) × (map_of_input keys.Paths file ≡ Ok es) × (m ≡ without_records es)
Says digest asked forms.Records file es m = (map_of_records file ≡ Ok m) × (es ≡ pairs digest m)

-- the signed commit of a file that says these records, where it is the export of a repository
abbrev pub IsCommitOf : (List ℕ → List ℕ) → Form → List ℕ → Records → Option (List ℕ) → Type 0
IsCommitOf digest forms.Car file m commit = (c : Commit) × IsExport digest 2 file c m × (commit ≡ Some (signed_bytes c))
IsCommitOf digest forms.Listing file m commit = commit ≡ None
IsCommitOf digest forms.Records file m commit = commit ≡ None

-- Why it says nothing: it is a CAR with this first fault, as `check` tells it; a listing whose first faulty line is told, or of
-- which records are needed; or lines of records of which the first faulty one is told. Of a want of memory nothing is said.
abbrev pub IsFileFault : (List ℕ → List ℕ) → ChangesCommand → Form → List ℕ → FileFault → Type 0
IsFileFault digest asked form file (errors.Export f) = (form ≡ forms.Car) × IsFaultOf digest exports.Check file f
IsFileFault digest asked form file (errors.Listing f) =
    (form ≡ forms.Listing) × Fails (tree_fault_of f) (map_of_input keys.Paths file)
IsFileFault digest asked form file (errors.Records f) =
    (form ≡ forms.Records) × Fails (lines_fault_of f) (map_of_records file)
IsFileFault digest asked form file errors.NoRecords = (form ≡ forms.Listing) × (needs_records asked ≡ true)

-- ---- as the code has it

abbrev pub said_pairs : {A : Type 0} → (List ℕ → List ℕ) → Contents A → List Pair
said_pairs digest (contents.Export found) = listed_pairs found
said_pairs digest (contents.Listing ps) = ps.items
said_pairs digest (contents.Records rs) = pairs digest (keyed rs.items)

abbrev pub said_records : {A : Type 0} → Contents A → Records
said_records (contents.Export found) = records_of found
said_records (contents.Listing ps) = without_records ps.items
said_records (contents.Records rs) = keyed rs.items

abbrev pub said_commit : {A : Type 0} → Contents A → Option (List ℕ)
said_commit (contents.Export found) = Some (signed_bytes (commit_of found.commit))
said_commit (contents.Listing ps) = None
said_commit (contents.Records rs) = None

pub record IsContents {A : Type 0} (digest : List ℕ → List ℕ) (asked : ChangesCommand) (form : Form) (file : List ℕ) (c : Contents A)
    : Type 0 where
  pub says : Says digest asked form file (said_pairs digest c) (said_records c)
  pub commit : IsCommitOf digest form file (said_records c) (said_commit c)

-- A command on a file that its words name.
use Rattle.std.proofs.Common.{◌≡◌, ◌⊎◌, ◌∙◌, ℕ, List, [], Some, None, inl, inr, ap, refl, subst}
use Rattle.std.specs.Prelude.{Option, option_map, unwrap_or}
use Rattle.std.specs.Io.KnownBytes.{Keeps}
use Rattle.clap.specs.Walk.{Row, Text}
use Rattle.console.specs.FileWords.{file_in}
use Rattle.console.specs.Files.{open_status}
use Rattle.console.specs.Written.{AppendsBeginning}
use Rattle.console.specs.declared.files.OpenFault.{OpenFault}
use Rattle.console.specs.declared.files.OpenFault.TheVariants as faults
use Rattle.console.proofs.Leaving.{Appends-nil}
use Rattle.difference_commands.specs.Words.{command_of}
use Rattle.difference_commands.proofs.Endings.{begun_by_nothing}
use Rattle.commands.specs.declared.command_line.Request.{Request}
use Rattle.commands.specs.declared.command_line.Request.TheVariants as requests
use Rattle.commands.specs.CommandLine.{file_given}
use Rattle.commands.specs.Requests.{Holding, IsBegun, IsDone, IsRefused}

-- ---- the file that words name

pub file_found : (o : Option (Text × List Row)) (rows : List Row) (name : Option Text) → Some rows ≡ option_map (λ p. p.1) o → name ≡ file_in rows
    → name ≡ file_given o
file_found None rows name found is = absurd (cc)
file_found (Some c) rows name found is = is ∙ ap file_in (ap (λ (r : Option (List Row)). unwrap_or r []) found)

pub none_found : (o : Option (Text × List Row)) → None ≡ option_map (λ p. p.1) o → None ≡ file_given o
none_found None found = refl
none_found (Some c) found = absurd (cc)

-- ---- a file that can't be opened

pub unopened_ends : (fault : OpenFault) (n : ℕ) → n ≡ open_status fault → (n ≡ 3) ⊎ (n ≡ 4)
unopened_ends faults.NotFound n is = inr is
unopened_ends faults.Denied n is = inr is
unopened_ends faults.Directory n is = inr is
unopened_ends faults.NoMemory n is = inl is
unopened_ends faults.Failed n is = inr is

nothing : (o : Option (List ℕ)) (text : List ℕ) → AppendsBeginning o o text
nothing o text = ([], text, refl, Appends-nil o)

kept : (o : Option (List ℕ)) → Keeps o o
kept None = tt
kept (Some xs) = refl

-- nothing is a beginning of any text
pub begun_with_nothing : (D : Type 0) (digest : List ℕ → List ℕ) (request : Request) (holds : Holding) (input old : Option (List ℕ)) → IsBegun D digest request holds input old old
begun_with_nothing D digest (requests.Tree options) holds None old = tt
begun_with_nothing D digest (requests.Tree options) holds (Some xs) old = nothing old _
begun_with_nothing D digest (requests.OnRepository command) holds None old = tt
begun_with_nothing D digest (requests.OnRepository command) holds (Some xs) old = nothing old _
begun_with_nothing D digest (requests.OnChange command) holds None old = tt
begun_with_nothing D digest (requests.OnChange command) holds (Some xs) old = nothing old _
begun_with_nothing D digest (requests.OnMessages command) holds None old = tt
begun_with_nothing D digest (requests.OnMessages command) holds (Some xs) old = nothing old _
begun_with_nothing D digest (requests.OnExport command) holds None old = tt
begun_with_nothing D digest (requests.OnExport command) holds (Some xs) old = inl (kept old)
begun_with_nothing D digest (requests.OnDifference words) holds input old =
    begun_by_nothing digest (command_of words) (holds words.old.now) (holds words.new.now) old
begun_with_nothing D digest (requests.Run command) holds None old = tt
begun_with_nothing D digest (requests.Run command) holds (Some xs) old = inl (kept old)
begun_with_nothing D digest (requests.Explain command) holds input old = nothing old _
begun_with_nothing D digest requests.Help holds input old = tt

-- ---- a file that holds what is read of it

pub done_on : (D : Type 0) (digest : List ℕ → List ℕ) (request : Request) (holds : Holding) (read held old new : Option (List ℕ)) → read ≡ held
    → IsDone D digest request holds read old new → IsDone D digest request holds held old new
done_on D digest request holds read held old new is = subst (λ i. IsDone D digest request holds i old new) is

pub refused_on : (D A : Type 0) (digest : List ℕ → List ℕ) (request : Request) (holds : Holding) (read held : Option (List ℕ)) → read ≡ held
    → IsRefused D A digest request holds read → IsRefused D A digest request holds held
refused_on D A digest request holds read held is = subst (λ i. IsRefused D A digest request holds i) is

pub begun_on : (D : Type 0) (digest : List ℕ → List ℕ) (request : Request) (holds : Holding) (read held old new : Option (List ℕ)) → read ≡ held
    → IsBegun D digest request holds read old new → IsBegun D digest request holds held old new
begun_on D digest request holds read held old new is = subst (λ i. IsBegun D digest request holds i old new) is

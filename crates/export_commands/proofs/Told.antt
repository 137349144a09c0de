-- What a command tells of what a check answered.
use Rattle.std.proofs.Common.{◌≡◌, ℕ, List, length, sym, ap, subst, ◌∙◌}
use Rattle.std.specs.Prelude.{Option, None, Result, Ok, Err, map, IsErrAnd}
use Rattle.std.specs.Io.KnownBytes.{Appends}
use Rattle.std.specs.List.{flat_map}
use Rattle.std.proofs.lemmas.List.{length-map}
use Rattle.std.proofs.lemmas.List.Folds.{flat_map-map}
use Rattle.spec.specs.Blocks.{pairs}
use Rattle.signed_commits.specs.Views.{commit_of}
use Rattle.repository_check.specs.declared.repository.Record.{Record}
use Rattle.repository_check.specs.declared.repository.Repository.{Repository}
use Rattle.repository_check.specs.Views.{keyed_record, listed_pairs, pair_of, records_of}
use Rattle.console.specs.Written.{AppendsBeginning, AppendsText}
use Rattle.console.specs.declared.fault.CommandFault.{CommandFault}
use Rattle.console.specs.declared.fault.CommandFault.TheVariants as ends
use Rattle.console.specs.declared.writing.WriteFault.{WriteFault}
use Rattle.export_commands.specs.declared.command.ExportCommand.{ExportCommand}
use Rattle.export_commands.specs.declared.command.ExportCommand.TheVariants as commands
use Rattle.export_commands.specs.declared.command.Values.{Values}
use Rattle.export_commands.specs.declared.command.Values.TheVariants as values
use Rattle.export_commands.specs.declared.fault.ExportFault.{ExportFault}
use Rattle.export_commands.specs.declared.fault.ExportFault.TheVariants as errors
use Rattle.export_commands.specs.Outcomes.{BeginsText, IsTestOf, IsTold, IsUntold}
use Rattle.export_commands.specs.Texts.{export_text, json_line, pair_line, record_line, records_lines, summary_line, unless_at, without_word}
use Rattle.export_commands.specs.Views.{line_of}

-- writing failed on the way
pub told-unwritten : (text : Result (List ℕ) ℕ) (old new : Option (List ℕ)) (r : Result (Unit {0}) (CommandFault ExportFault)) (w : WriteFault)
    → IsErrAnd r (λ e. e ≡ ends.Unwritten w) → BeginsText old new text → IsTold text old new r
told-unwritten text old new (Ok done) w is p = absurd is
told-unwritten text old new (Err e) w is p = subst (λ f. IsTold text old new (Err f)) (sym is) p

-- ---- lines of which each has its word, or none is written

pub listed : (place : Option ℕ) (text : List ℕ) (old new : Option (List ℕ)) → place ≡ None → Appends old new text → AppendsText old new (unless_at place text)
listed place text old new none p = subst (λ o. AppendsText old new (unless_at o text)) (sym none) p

pub listed-in-part : (place : Option ℕ) (text : List ℕ) (old new : Option (List ℕ)) (r : Result (Unit {0}) (CommandFault ExportFault)) (w : WriteFault)
    → IsErrAnd r (λ e. e ≡ ends.Unwritten w) → place ≡ None → AppendsBeginning old new text → IsTold (unless_at place text) old new r
listed-in-part place text old new r w is none p =
    told-unwritten (unless_at place text) old new r w is (subst (λ o. BeginsText old new (unless_at o text)) (sym none) p)

pub unlisted : (place : Option ℕ) (text : List ℕ) (fault : ExportFault) → IsTestOf place (Err fault) → IsUntold (unless_at place text) fault
unlisted place text (errors.Check f) p = p
unlisted place text (errors.NoJsonForm i) p = ap (λ o. unless_at o text) p
unlisted place text errors.ReadFailed p = absurd p

module _ {A : Type 0} (digest : List ℕ → List ℕ) (r : Repository A) where
  -- as many records as were listed
  pub summary-is : (command : ExportCommand) (n : ℕ) → command ≡ commands.Check → n ≡ length r.records.items
      → Ok (summary_line (commit_of r.commit) n) ≡ export_text digest command (commit_of r.commit) (records_of r)
  summary-is command n is e =
      ap (λ k. Ok (summary_line (commit_of r.commit) k)) (e ∙ sym (length-map r.records.items keyed_record))
      ∙ ap (λ w. export_text digest w (commit_of r.commit) (records_of r)) (sym is)

  lines-are : (asked : Values) → listed_pairs r ≡ pairs digest (records_of r)
      → flat_map (line_of asked) r.records.items ≡ records_lines digest asked (records_of r)
  lines-are values.Bytes e = sym (flat_map-map record_line keyed_record r.records.items)
  lines-are values.Json e = sym (flat_map-map json_line keyed_record r.records.items)
  lines-are values.Cids e = sym (flat_map-map pair_line pair_of r.records.items) ∙ ap (flat_map pair_line) e

  -- each with its line
  pub records-are : (command : ExportCommand) (asked : Values) (given : List (Record A)) → command ≡ commands.Records asked → given ≡ r.records.items
      → listed_pairs r ≡ pairs digest (records_of r)
      → unless_at (without_word asked (map keyed_record given)) (flat_map (line_of asked) given) ≡ export_text digest command (commit_of r.commit) (records_of r)
  records-are command asked given is all e =
      ap (λ es. unless_at (without_word asked (map keyed_record es)) (flat_map (line_of asked) es)) all
      ∙ ap (unless_at (without_word asked (records_of r))) (lines-are asked e)
      ∙ ap (λ w. export_text digest w (commit_of r.commit) (records_of r)) (sym is)

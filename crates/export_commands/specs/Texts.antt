-- What the commands on an export tell of a repository (the forms of the texts are a choice of this
-- project).
use Rattle.std.specs.Prelude.{ℕ, suc, List, [], ◌∷◌, ◌++◌, length, decimal, Option, Some, None}
use Rattle.std.specs.Prelude.{Result, Ok, Err, is_some, if◌then◌else◌, unwrap_or}
use Rattle.std.specs.List.{flat_map}
use Rattle.hex.specs.Hex.{encode_lower}
use Rattle.spec.specs.Cid.{text}
use Rattle.spec.specs.Tree.{Pair}
use Rattle.spec.specs.Blocks.{pairs}
use Rattle.spec.specs.SignedCommits.{Commit, unsigned_bytes}
use Rattle.record_forms.specs.Records.{json_of_record}
use Rattle.export_commands.specs.declared.command.Values.{Values}
use Rattle.export_commands.specs.declared.command.Values.TheVariants as values
use Rattle.export_commands.specs.declared.command.ExportCommand.{ExportCommand}
use Rattle.export_commands.specs.declared.command.ExportCommand.TheVariants as commands

-- records, each under its key, in the order of the keys
abbrev pub Records : Type 0
Records = List (List ℕ × List ℕ)

-- a word and the space behind it
abbrev pub spaced : List ℕ → List ℕ
spaced word = word ++ (32 ∷ [])

-- the last word of a line and the line's end
abbrev pub ended : List ℕ → List ℕ
ended word = word ++ (10 ∷ [])

-- whose repository it is, its revision, the root of its tree, and how many records it has
abbrev pub summary_line : Commit → ℕ → List ℕ
summary_line c count =
    spaced c.did ++ (spaced c.rev ++ (spaced (text c.root) ++ ended (decimal count)))

-- a record under its key
abbrev pub record_line : List ℕ × List ℕ → List ℕ
record_line e = spaced e.0 ++ ended (encode_lower e.1)

-- the JSON of a record, and nothing where it has none
abbrev pub json_or_nothing : List ℕ → List ℕ
json_or_nothing bytes = unwrap_or (json_of_record bytes) []

-- a record as JSON under its key
abbrev pub json_line : List ℕ × List ℕ → List ℕ
json_line e = spaced e.0 ++ ended (json_or_nothing e.1)

-- a CID under its key
abbrev pub pair_line : Pair → List ℕ
pair_line e = spaced e.0 ++ ended (text e.1)

-- all records, their JSON or their CIDs
abbrev pub records_lines : (List ℕ → List ℕ) → Values → Records → List ℕ
records_lines digest values.Bytes m = flat_map record_line m
records_lines digest values.Json m = flat_map json_line m
records_lines digest values.Cids m = flat_map pair_line (pairs digest m)

-- the place of the first record that has no JSON, if there is one, where the first of all is at this place
abbrev pub formless_from : ℕ → Records → Option ℕ
formless_from place [] = None
formless_from place (e ∷ m) =
    if is_some (json_of_record e.1) then formless_from (suc place) m else Some place

abbrev pub formless : Records → Option ℕ
formless m = formless_from 0 m

-- the place of the first record that hasn't the word that is asked for; bytes and a CID each has
abbrev pub without_word : Values → Records → Option ℕ
without_word values.Bytes m = None
without_word values.Json m = formless m
without_word values.Cids m = None

-- a text, or the place of a record by which there is none
abbrev pub unless_at : Option ℕ → List ℕ → Result (List ℕ) ℕ
unless_at None text = Ok text
unless_at (Some place) text = Err place

abbrev pub records_text : (List ℕ → List ℕ) → Values → Records → Result (List ℕ) ℕ
records_text digest asked m = unless_at (without_word asked m) (records_lines digest asked m)

-- the bytes that were signed, and the signature
abbrev pub signing_lines : Commit → List ℕ
signing_lines c = ended (encode_lower (unsigned_bytes c)) ++ ended (encode_lower c.sig)

-- what a command tells of the repository with this commit and these records, or the place of the first
-- record that hasn't what is to be told of it
abbrev pub export_text : (List ℕ → List ℕ) → ExportCommand → Commit → Records → Result (List ℕ) ℕ
export_text digest commands.Check c m = Ok (summary_line c (length m))
export_text digest (commands.Records asked) c m = records_text digest asked m
export_text digest commands.Commit c m = Ok (signing_lines c)

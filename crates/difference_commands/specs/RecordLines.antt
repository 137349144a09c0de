-- Lines `KEY HEX`, each a record under its key (a choice of this project).
use Rattle.std.specs.Prelude.{ℕ, List, [], ◌∷◌, Option, Some, None, Result, Ok, Err}
use Rattle.std.specs.List.{before_first, after_first}
use Rattle.spec.specs.Reading.{◌>>=◌}
use Rattle.spec.specs.Writes.{WriteFault, Put, write_test}
use Rattle.console.specs.Lines.{numbered_lines, is_space, bytes_of_hex}
use Rattle.tree_command.specs.TreeText.{last_of_each_key}
use Rattle.export_commands.specs.Texts.{Records}

-- what is wrong with a line: it has no key or no record, or a put of the record isn't taken
pub data LineFault : Type 0 where
  BadLine : LineFault
  OfWrite : WriteFault → LineFault

-- the first line that something is wrong with, by its number, from 1
pub data LinesFault : Type 0 where
  Line : ℕ → LineFault → LinesFault

-- a key and a record, where both are there
abbrev pub keyed_bytes : List ℕ → Option (List ℕ) → Option (List ℕ × List ℕ)
keyed_bytes [] bytes = None
keyed_bytes (c ∷ key) None = None
keyed_bytes (c ∷ key) (Some bytes) = Some (c ∷ key, bytes)

-- the key is all before the first space, and the record in hexadecimal all after it
abbrev pub words_of_line : List ℕ → Option (List ℕ × List ℕ)
words_of_line l = keyed_bytes (before_first is_space l) (bytes_of_hex (after_first is_space l))

abbrev pub or_bad_line : Option (List ℕ × List ℕ) → Result (List ℕ × List ℕ) LineFault
or_bad_line None = Err BadLine
or_bad_line (Some e) = Ok e

abbrev pub of_write : Result (Unit {0}) WriteFault → Result (Unit {0}) LineFault
of_write (Ok ok) = Ok ok
of_write (Err f) = Err (OfWrite f)

-- a line's record is tested as a put of it, under a key that isn't there
unfoldable pub record_of_line : List ℕ → Result (List ℕ × List ℕ) LineFault
record_of_line l = do
  e ← or_bad_line (words_of_line l)
  taken ← of_write (write_test [] (Put e.0 e.1))
  Ok e

abbrev pub at_line : ℕ → Result (List ℕ × List ℕ) LineFault → Result (List ℕ × List ℕ) LinesFault
at_line n (Ok e) = Ok e
at_line n (Err f) = Err (Line n f)

-- the records of numbered lines in their order, or the first faulty line
unfoldable pub records_of_lines : List (ℕ × List ℕ) → Result Records LinesFault
records_of_lines [] = Ok []
records_of_lines (l ∷ ls) = do
  e ← at_line l.0 (record_of_line l.1)
  more ← records_of_lines ls
  Ok (e ∷ more)

-- the records that the lines of an input leave, of each key the last one, or the first faulty line
unfoldable pub map_of_records : List ℕ → Result Records LinesFault
map_of_records input = do
  es ← records_of_lines (numbered_lines input)
  Ok (last_of_each_key es)

-- What the lines of `prove-change` say: the records of a repository, and behind the first empty line the writes of one
-- batch on it (a choice of this project).
use Rattle.std.specs.Prelude.{ℕ, ◌+◌, Bool, true, false, List, [], ◌∷◌, codes, if◌then◌else◌, Result, Ok, Err}
use Rattle.std.specs.List.{list_any, before_first, after_first}
use Rattle.std.specs.Str.{bytes_eq}
use Rattle.spec.specs.Writes.{Write, Put, Create, Update, Delete}
use Rattle.console.specs.Lines.{lines, is_space}
use Rattle.record_forms.specs.Records.{WordFault, BadWord, record_of_word}
use Rattle.record_forms.specs.declared.form.Form.{Form}
use Rattle.repository_commands.specs.Puts.{Given, nothing_given, put_of_line, taken}

-- ---- one line

-- the delete of a key, which has bytes and no space
abbrev pub delete_of : List ℕ → Result Write WordFault
delete_of [] = Err BadWord
delete_of (c ∷ key) =
    if list_any is_space (c ∷ key) then Err BadWord else Ok (Delete (c ∷ key))

-- the write that leaves a record under a key, by its word
abbrev pub write_by : List ℕ → List ℕ → List ℕ → Result Write WordFault
write_by word key bytes =
    if bytes_eq word (codes "put") then Ok (Put key bytes)
    else if bytes_eq word (codes "create") then Ok (Create key bytes)
    else if bytes_eq word (codes "update") then Ok (Update key bytes)
    else Err BadWord

-- with a key that isn't empty, and the bytes of a record
abbrev pub record_write : List ℕ → List ℕ → Result (List ℕ) WordFault → Result Write WordFault
record_write word [] read = Err BadWord
record_write word (c ∷ key) (Err f) = Err f
record_write word (c ∷ key) (Ok bytes) = write_by word (c ∷ key) bytes

-- `delete KEY`, or another word, a key and a record, which is all behind it
abbrev pub write_of_words : Form → List ℕ → List ℕ → Result Write WordFault
write_of_words form word rest =
    if bytes_eq word (codes "delete") then delete_of rest
    else record_write word (before_first is_space rest)
    (record_of_word form (after_first is_space rest))

-- the word is all before the first space
abbrev pub write_of_line : Form → List ℕ → Result Write WordFault
write_of_line form l = write_of_words form (before_first is_space l) (after_first is_space l)

-- the write of a line before the first empty one, or behind it
abbrev pub write_on : Form → Bool → List ℕ → Result Write WordFault
write_on form false l = put_of_line form l
write_on form true l = write_of_line form l

-- ---- all lines

-- the puts of a repository and the writes of a batch, and whether there was an empty line
pub record Story : Type 0 where
  pub before : Given
  pub batch : Given
  pub is_parted : Bool

abbrev pub nothing_told : Story
nothing_told = record { before = nothing_given; batch = nothing_given; is_parted = false }

abbrev pub parted : Story → Story
parted s = record { before = s.before; batch = s.batch; is_parted = true }

-- with what a line gives, before the first empty one or behind it
abbrev pub taken_into : Bool → Story → ℕ → Result Write WordFault → Story
taken_into false s n o = record { before = taken s.before n o; batch = s.batch; is_parted = false }
taken_into true s n o = record { before = s.before; batch = taken s.batch n o; is_parted = true }

-- behind a line that is no write nothing is read
abbrev pub read_on : Result Write WordFault → Story → Story → Story
read_on (Err f) stopped further = stopped
read_on (Ok w) stopped further = further

-- with what the lines from this number on give
unfoldable pub story_from : Form → Story → ℕ → List (List ℕ) → Story
story_from form s n [] = s
story_from form s n ([] ∷ ls) = story_from form (parted s) (n + 1) ls
story_from form s n ((c ∷ l) ∷ ls) =
    let o = write_on form s.is_parted (c ∷ l) in
    let t = taken_into s.is_parted s n o in
    read_on o t (story_from form t (n + 1) ls)

-- of an input
abbrev pub story_in : Form → List ℕ → Story
story_in form input = story_from form nothing_told 1 (lines input)

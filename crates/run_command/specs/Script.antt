-- A script: lines that say which worker calls what in which repository (a choice of this project).
use Rattle.std.specs.Prelude.{ℕ, ◌+◌, ◌-◌, ◌*◌, ◌^◌, ◌==◌, length, Bool, ◌&&◌, List, [], ◌∷◌, codes, nat_lt, nat_le}
use Rattle.std.specs.Prelude.{Option, Some, None, Result, Ok, Err, if◌then◌else◌}
use Rattle.std.specs.List.{list_any, slice_split}
use Rattle.std.specs.Str.{bytes_eq}
use Rattle.spec.specs.Reading.{◌>>=◌}
use Rattle.spec.specs.Stamps.{Stamp}
use Rattle.spec.specs.Writes.{Write, Put, Create, Update, Delete}
use Rattle.console.specs.Lines.{numbered_lines, is_space, bytes_of_hex}

-- ---- the tokens of a line

-- they are parted by one space each; a token that is empty makes the line faulty
abbrev pub tokens : List ℕ → List (List ℕ)
tokens line = slice_split is_space line

-- goes on with what is there
abbrev pub and_then : {A B : Type 0} → Option A → (A → Option B) → Option B
and_then None f = None
and_then (Some x) f = f x

-- a digit after these others, where the number fits 32 bits
abbrev pub with_digit : ℕ → ℕ → Option ℕ
with_digit n c = if nat_le 48 c && nat_le c 57 && nat_lt (n * 10 + (c - 48)) (2 ^ 32)
    then Some (n * 10 + (c - 48)) else None

-- the digits of a word after a number
unfoldable pub number_after : Option ℕ → List ℕ → Option ℕ
number_after None word = None
number_after (Some n) [] = Some n
number_after (Some n) (c ∷ word) = number_after (with_digit n c) word

-- the number of a word of decimal digits, up to 2 ^ 32 - 1
abbrev pub number_of : List ℕ → Option ℕ
number_of [] = None
number_of (c ∷ word) = number_after (Some 0) (c ∷ word)

-- ---- the writes of a batch

-- a semicolon parts writes
abbrev pub is_mark : List ℕ → Bool
is_mark token = bytes_eq token (codes ";")

abbrev pub delete_of : List ℕ → List ℕ → Option Write
delete_of word key = if bytes_eq word (codes "delete") then Some (Delete key) else None

-- a write that leaves a record, by its word
abbrev pub record_write : List ℕ → List ℕ → List ℕ → Option Write
record_write word key bytes =
    if bytes_eq word (codes "put") then Some (Put key bytes)
    else if bytes_eq word (codes "create") then Some (Create key bytes)
    else if bytes_eq word (codes "update") then Some (Update key bytes)
    else None

-- `delete KEY`, or another write with a record in hexadecimal, as `put KEY HEX`
abbrev pub write_of : List (List ℕ) → Option Write
write_of (word ∷ key ∷ []) = delete_of word key
write_of (word ∷ key ∷ hex ∷ []) = and_then (bytes_of_hex hex) (record_write word key)
write_of ts = None

-- one write after the other, where each is one
unfoldable pub writes_of_parts : List (List (List ℕ)) → Option (List Write)
writes_of_parts [] = Some []
writes_of_parts (ts ∷ parts) =
    and_then (write_of ts) (λ w. and_then (writes_of_parts parts) (λ ws. Some (w ∷ ws)))

abbrev pub writes_of : List (List ℕ) → Option (List Write)
writes_of ts = writes_of_parts (slice_split is_mark ts)

-- ---- a line

-- what a line calls: a batch of writes under a stamp, or a look for the record of a key
pub data Call : Type 0 where
  Apply : Stamp → List Write → Call
  Get : List ℕ → Call

abbrev pub get_of : List ℕ → List ℕ → Option Call
get_of word key = if bytes_eq word (codes "get") then Some (Get key) else None

abbrev pub batch_of : List ℕ → List ℕ → List (List ℕ) → Option Call
batch_of did rev ts =
    and_then (writes_of ts) (λ ws. Some (Apply (record { did = did; rev = rev }) ws))

-- `get KEY`, or `REV WRITE`, or `REV WRITE ; WRITE ..`
abbrev pub call_of : List ℕ → List (List ℕ) → Option Call
call_of did (word ∷ key ∷ []) = get_of word key
call_of did (rev ∷ ts) = batch_of did rev ts
call_of did [] = None

-- a line of a script: its number, from 1, its worker, its repository, and what is called
pub record ScriptLine : Type 0 where
  pub number : ℕ
  pub worker : ℕ
  pub repo : ℕ
  pub call : Call

-- below the count of workers
abbrev pub worker_of : ℕ → List ℕ → Option ℕ
worker_of workers word =
    and_then (number_of word) (λ n. if nat_lt n workers then Some n else None)

abbrev pub made_line : ℕ → ℕ → ℕ → Call → ScriptLine
made_line number worker repo call =
    record { number = number; worker = worker; repo = repo; call = call }

-- `WORKER REPO` and a call
abbrev pub line_of_tokens : ℕ → List ℕ → ℕ → List (List ℕ) → Option ScriptLine
line_of_tokens workers did number (worker ∷ repo ∷ ts) =
    and_then (worker_of workers worker) (λ w. and_then (number_of repo) (λ r.
    and_then (call_of did ts) (λ call. Some (made_line number w r call))))
line_of_tokens workers did number ts = None

abbrev pub has_empty : List (List ℕ) → Bool
has_empty ts = list_any (λ t. length t == 0) ts

abbrev pub line_of : ℕ → List ℕ → ℕ → List ℕ → Option ScriptLine
line_of workers did number l =
    if has_empty (tokens l) then None else line_of_tokens workers did number (tokens l)

-- ---- a script

-- the line, or the number of the faulty one
abbrev pub or_faulty : ℕ → Option ScriptLine → Result ScriptLine ℕ
or_faulty number None = Err number
or_faulty number (Some line) = Ok line

-- the lines in their order, or the number of the first faulty one
unfoldable pub script_of_lines : ℕ → List ℕ → List (ℕ × List ℕ) → Result (List ScriptLine) ℕ
script_of_lines workers did [] = Ok []
script_of_lines workers did (l ∷ ls) = do
  one ← or_faulty l.0 (line_of workers did l.0 l.1)
  more ← script_of_lines workers did ls
  Ok (one ∷ more)

-- the lines of an input, for so many workers, whose batches have this DID; an empty line is passed over
abbrev pub script_in : ℕ → List ℕ → List ℕ → Result (List ScriptLine) ℕ
script_in workers did input = script_of_lines workers did (numbered_lines input)

-- Writes to a repository, and the records that they leave (AT Protocol repository v3, records and
-- paths).
use Rattle.std.specs.Prelude.{ℕ, ◌+◌, Bool, true, false, ◌&&◌, not, List, [], ◌∷◌, length, nat_lt}
use Rattle.std.specs.Prelude.{nat_le, fold, is_some, Result, Ok, Err, Option, Some, None}
use Rattle.std.specs.Prelude.{if◌then◌else◌}
use Rattle.std.specs.Str.{bytes_eq}
use Rattle.std.specs.Cmp.Lexicographic.{slice_cmp}
use Rattle.std.specs.Ordering.{nat_cmp}
use Rattle.std.specs.FinMap.{find, put}
use Rattle.std.specs.FinMap.Entries.{where_key}
use Rattle.spec.specs.Reading.{◌>>=◌, ensure}
use Rattle.spec.specs.Head.{CborFault}
use Rattle.spec.specs.DagCbor.{Value, Fields, read}
use Rattle.spec.specs.Keys.{is_repository_key}

-- a key, and then a record's bytes
pub data Write : Type 0 where
  Put : (key record_bytes : List ℕ) → Write
  Create : (key record_bytes : List ℕ) → Write
  Update : (key record_bytes : List ℕ) → Write
  Delete : (key : List ℕ) → Write

-- the key that a write names
abbrev pub key_of : Write → List ℕ
key_of (Put key bytes) = key
key_of (Create key bytes) = key
key_of (Update key bytes) = key
key_of (Delete key) = key

-- the record that it leaves under that key
abbrev pub record_of : Write → Option (List ℕ)
record_of (Put key bytes) = Some bytes
record_of (Create key bytes) = Some bytes
record_of (Update key bytes) = Some bytes
record_of (Delete key) = None

-- the map with this record under the key
abbrev pub with_key : List (List ℕ × List ℕ) → List ℕ → List ℕ → List (List ℕ × List ℕ)
with_key m key bytes = put (slice_cmp nat_cmp) key bytes m

-- the map without the key
abbrev pub without_key : List (List ℕ × List ℕ) → List ℕ → List (List ℕ × List ℕ)
without_key m key = where_key (slice_cmp nat_cmp) (λ k. not (bytes_eq key k)) m

-- the one or the other
abbrev pub with_or_without : List (List ℕ × List ℕ) → List ℕ → Option (List ℕ)
    → List (List ℕ × List ℕ)
with_or_without m key None = without_key m key
with_or_without m key (Some bytes) = with_key m key bytes

-- the record map after a write
abbrev pub after_write : List (List ℕ × List ℕ) → Write → List (List ℕ × List ℕ)
after_write m w = with_or_without m (key_of w) (record_of w)

-- the record map that writes leave
abbrev pub leaves : List Write → List (List ℕ × List ℕ)
leaves ws = fold after_write [] ws

-- the write is to this key
abbrev pub names : List ℕ → Write → Bool
names key w = bytes_eq key (key_of w)

-- the record of a key by the last write that names it, and before where none does
abbrev pub last_record : List ℕ → Option (List ℕ) → List Write → Option (List ℕ)
last_record key before ws = fold (λ o w. if names key w then record_of w else o) before ws

-- ---- which writes are taken

-- why a write isn't taken (the names are a choice of this project): no room for more writes; its
-- key; its record's size, spelling or kind; whether its key is there
pub data WriteFault : Type 0 where
  WritesFull : WriteFault
  BadKey : WriteFault
  RecordSize : WriteFault
  BadRecord : CborFault → WriteFault
  NotAMap : WriteFault
  KeyExists : WriteFault
  NoSuchKey : WriteFault

-- a record is a map (AT Protocol data model)
abbrev pub is_map : Value → Bool
is_map (Fields es) = true
is_map v = false

-- a record that was read, or the fault
abbrev pub or_bad_record : Result Value CborFault → Result Value WriteFault
or_bad_record (Ok v) = Ok v
or_bad_record (Err f) = Err (BadRecord f)

-- a record: one map (AT Protocol data model), of at most 1,048,576 bytes (this bound is a choice of
-- this project)
unfoldable pub record_test : List ℕ → Result (Unit {0}) WriteFault
record_test bytes = do
  size_ok ← ensure (nat_le (length bytes) 1048576) RecordSize
  v ← or_bad_record (read bytes)
  ensure (is_map v) NotAMap

-- there is a record under the key
abbrev pub has_key : List (List ℕ × List ℕ) → List ℕ → Bool
has_key m key = is_some (find (slice_cmp nat_cmp) key m)

-- the first test that a write fails, by whether there is a record under its key, but for the limit
abbrev pub test_when : Bool → Write → Result (Unit {0}) WriteFault
test_when there (Put key bytes) = do
  key_ok ← ensure (is_repository_key key) BadKey
  record_test bytes
test_when there (Create key bytes) = do
  key_ok ← ensure (is_repository_key key) BadKey
  record_ok ← record_test bytes
  ensure (not there) KeyExists
test_when there (Update key bytes) = do
  key_ok ← ensure (is_repository_key key) BadKey
  record_ok ← record_test bytes
  ensure there NoSuchKey
test_when there (Delete key) = do
  key_ok ← ensure (is_repository_key key) BadKey
  ensure there NoSuchKey

-- the same on the map before the write
abbrev pub write_test : List (List ℕ × List ℕ) → Write → Result (Unit {0}) WriteFault
write_test m w = test_when (has_key m (key_of w)) w

-- the same with the limit first, after so many writes (this order is a choice of this project)
abbrev pub limited_test : ℕ → ℕ → List (List ℕ × List ℕ) → Write → Result (Unit {0}) WriteFault
limited_test limit count m w = do
  room ← ensure (nat_lt count limit) WritesFull
  write_test m w

-- a refusal, and the number of the refused write in its batch, from 0
abbrev pub at_number : ℕ → Result (Unit {0}) WriteFault → Result (Unit {0}) (ℕ × WriteFault)
at_number i (Ok ok) = Ok ok
at_number i (Err f) = Err (i, f)

-- from a write of this number on, after so many writes in all and on the map that they leave
abbrev pub batch_test_from : ℕ → ℕ → ℕ → List (List ℕ × List ℕ) → List Write
    → Result (Unit {0}) (ℕ × WriteFault)
batch_test_from number limit count m [] = Ok tt
batch_test_from number limit count m (w ∷ ws) = do
  ok ← at_number number (limited_test limit count m w)
  batch_test_from (number + 1) limit (count + 1) (after_write m w) ws

-- write by write, each on what those before it leave
abbrev pub batch_test : ℕ → List Write → List Write → Result (Unit {0}) (ℕ × WriteFault)
batch_test limit accepted batch = batch_test_from 0 limit (length accepted) (leaves accepted) batch

-- there was no fault
abbrev pub passes : {A E : Type 0} → Result A E → Bool
passes (Ok x) = true
passes (Err e) = false

-- each write passes its test on the map that those before it leave, from this map on
abbrev pub is_lawful_from : List (List ℕ × List ℕ) → List Write → Bool
is_lawful_from m [] = true
is_lawful_from m (w ∷ ws) = passes (write_test m w) && is_lawful_from (after_write m w) ws

-- each write passed its test when it was made
abbrev pub is_lawful_list : List Write → Bool
is_lawful_list ws = is_lawful_from [] ws

-- How a stream is cut into frames (AT Protocol, event streams: a header and a payload, one item of DAG-CBOR each). Where an item
-- ends is told by its heads alone (RFC 8949, section 3).
use Rattle.std.specs.Prelude.{ℕ, zero, suc, ◌+◌, ◌-◌, ◌==◌, ◌||◌, not, List, length, take, drop, nat_lt, if◌then◌else◌, Result, Ok, Err}
use Rattle.spec.specs.Reading.{◌>>=◌, ensure, front}
use Rattle.spec.specs.Head.{CborFault, Truncated, head_at}

-- how many bytes behind a head of this major type and argument belong to it: those of a byte string or a text
abbrev pub bytes_of_head : ℕ → ℕ → ℕ
bytes_of_head major n = if (major == 2) || (major == 3) then n else 0

-- how many items: those of a list, the keys and values of a map, and what a tag is put on
abbrev pub items_of_head : ℕ → ℕ → ℕ
items_of_head major n =
    if major == 4 then n else if major == 5 then n + n else if major == 6 then 1 else 0

-- Behind a head and its bytes: how many items are to come, where there were so many beside it, and the bytes that are left. An
-- item has at least one byte.
unfoldable pub behind_head : ℕ → List ℕ → Result (ℕ × List ℕ) CborFault
behind_head items bytes = do
  h ← head_at bytes
  content ← front Truncated (bytes_of_head h.0.0 h.0.1) h.1
  enough ← ensure (not (nat_lt (length content.1) (items + items_of_head h.0.0 h.0.1))) Truncated
  Ok (items + items_of_head h.0.0 h.0.1, content.1)

-- behind so many items, where so many heads are read at most
unfoldable pub behind : ℕ → ℕ → List ℕ → Result (List ℕ) CborFault
behind heads zero bytes = Ok bytes
behind zero (suc items) bytes = Err Truncated
behind (suc heads) (suc items) bytes = behind_head items bytes >>= λ r. behind heads r.0 r.1

-- how many bytes the frame at the front has: each of its heads has a byte
unfoldable pub frame_length : List ℕ → Result ℕ CborFault
frame_length bytes = behind (length bytes) 2 bytes >>= λ rest. Ok (length bytes - length rest)

-- cut at a place, or at the end where there is none
abbrev pub cut_at : List ℕ → Result ℕ CborFault → List ℕ × List ℕ
cut_at stream (Ok n) = (take n stream, drop n stream)
cut_at stream (Err f) = (take (length stream) stream, drop (length stream) stream)

-- the first frame, and what is behind it; all is one where no frame ends
abbrev pub cut : List ℕ → List ℕ × List ℕ
cut stream = cut_at stream (frame_length stream)

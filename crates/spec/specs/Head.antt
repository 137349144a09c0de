-- Heads of data items (RFC 8949, section 3), each in its shortest form only (IPLD DAG-CBOR, strictness).
use Rattle.std.specs.Prelude.{ℕ, ◌+◌, ◌-◌, ◌*◌, ◌/◌, ◌%◌, ◌^◌, ◌||◌, List, [], ◌∷◌, nat_lt, ◌==◌, if◌then◌else◌, Result, Ok, Err}
use Rattle.std.specs.Int.{Width, w8, w16, w32, w64, byte_len, to_be_bytes, from_be_bytes}
use Rattle.spec.specs.Reading.{◌>>=◌, ensure, front}

-- what can be wrong with an encoded value (the names are a choice of this project)
pub data CborFault : Type 0 where
  Truncated : CborFault
  LongHead : CborFault
  Indefinite : CborFault
  BadTag : CborFault
  BadLink : CborFault
  KeyNotText : CborFault
  KeyOrder : CborFault
  BadUtf8 : CborFault
  Float : CborFault
  Simple : CborFault
  IntegerRange : CborFault
  TooDeep : CborFault
  Trailing : CborFault

-- the major types (RFC 8949, section 3.1)
pub data Major : Type 0 where
  UnsignedInteger : Major
  NegativeInteger : Major
  ByteString : Major
  TextString : Major
  Array : Major
  Map : Major
  Tag : Major
  SimpleValue : Major

-- the major type of a number from 0 to 7
abbrev pub major_of : ℕ → Major
major_of m =
    if m == 0 then UnsignedInteger
    else if m == 1 then NegativeInteger
    else if m == 2 then ByteString
    else if m == 3 then TextString
    else if m == 4 then Array
    else if m == 5 then Map
    else if m == 6 then Tag
    else SimpleValue

-- the one head of major type m with argument n (RFC 8949, section 3; DAG-CBOR: the shortest)
abbrev pub head : ℕ → ℕ → List ℕ
head m n =
    if nat_lt n 24 then (32 * m + n) ∷ []
    else if nat_lt n (2 ^ 8) then (32 * m + 24) ∷ to_be_bytes w8 n
    else if nat_lt n (2 ^ 16) then (32 * m + 25) ∷ to_be_bytes w16 n
    else if nat_lt n (2 ^ 32) then (32 * m + 26) ∷ to_be_bytes w32 n
    else (32 * m + 27) ∷ to_be_bytes w64 n

-- the argument that follows, and the least that needs its width
abbrev pub argument_width : ℕ → Width
argument_width low = if low == 24 then w8 else if low == 25 then w16 else if low == 26 then w32 else w64

-- the least argument that needs that width: what a shorter head could say is no lawful argument (DAG-CBOR, strictness)
abbrev pub least_argument : ℕ → ℕ
least_argument low = if low == 24 then 24 else if low == 25 then 2 ^ 8 else if low == 26 then 2 ^ 16 else 2 ^ 32

-- an argument of 1, 2, 4 or 8 bytes (RFC 8949, section 3)
abbrev pub long_argument : ℕ → List ℕ → Result (ℕ × List ℕ) CborFault
long_argument low bytes = do
  f ← front Truncated (byte_len (argument_width low)) bytes
  ok ← ensure (nat_lt (least_argument low - 1) (from_be_bytes (argument_width low) f.0)) LongHead
  Ok (from_be_bytes (argument_width low) f.0, f.1)

-- the argument that a first byte's low five bits announce: 28 to 30 are reserved, and 31 is an indefinite length, which DAG-CBOR has not
abbrev pub argument_at : ℕ → List ℕ → Result (ℕ × List ℕ) CborFault
argument_at low bytes =
    if nat_lt low 24 then Ok (low, bytes)
    else if low == 31 then Err Indefinite
    else if nat_lt 27 low then Err LongHead
    else long_argument low bytes

-- false, true and null alone: the AT Protocol's data model has no floats (IPLD DAG-CBOR, simple values; AT Protocol data model)
abbrev pub simple_at : ℕ → List ℕ → Result (ℕ × List ℕ) CborFault
simple_at low bytes =
    if low == 20 || low == 21 || low == 22 then Ok (low, bytes)
    else if low == 25 || low == 26 || low == 27 then Err Float
    else if low == 31 then Err Indefinite
    else Err Simple

-- a head at the front: its major type and argument, and the bytes after it
unfoldable pub head_at : List ℕ → Result ((ℕ × ℕ) × List ℕ) CborFault
head_at [] = Err Truncated
head_at (b ∷ bytes) = do
  n ← (if nat_lt b 224 then argument_at (b % 32) bytes else simple_at (b % 32) bytes)
  Ok ((b / 32, n.0), n.1)

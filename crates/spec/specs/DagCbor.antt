-- DAG-CBOR (IPLD DAG-CBOR): the one spelling of each value, and reading with the first fault.
use Rattle.std.specs.Prelude.{ℕ, zero, suc, ◌/◌, ◌^◌, Bool, true, false, ◌&&◌, ◌||◌, List, [], ◌∷◌, ◌++◌, length, drop, slice_index, nat_lt, ◌==◌, if◌then◌else◌, ℤ, pos, negsuc, Option, Some, None, Result, Ok, Err}
use Rattle.std.specs.Str.{is_utf8}
use Rattle.std.specs.Cmp.Lexicographic.{slice_cmp}
use Rattle.std.specs.Ordering.{nat_cmp, is_lt}
use Rattle.spec.specs.Reading.{◌>>=◌, ensure, front}
use Rattle.spec.specs.Head.{CborFault, Truncated, BadTag, BadLink, KeyNotText, KeyOrder, BadUtf8, IntegerRange, TooDeep, Trailing, Major, UnsignedInteger, NegativeInteger, ByteString, TextString, Array, Map, Tag, SimpleValue, major_of, head, head_at}
use Rattle.spec.specs.Cid.{is_cid}

mutual
  -- a value of the data model, which has no floats (AT Protocol data model); a link holds a CID without the byte 00
  pub data Value : Type 0 where
    Null : Value
    Boolean : Bool → Value
    Integer : ℤ → Value
    Bytes : List ℕ → Value
    Text : List ℕ → Value
    Items : Values → Value
    Fields : Entries → Value
    Link : List ℕ → Value

  -- the items of a list, in order
  pub data Values : Type 0 where
    NoValue : Values
    ValueThen : Value → Values → Values

  -- the fields of a map, each a key and its value, in order
  pub data Entries : Type 0 where
    NoEntry : Entries
    EntryThen : (key : List ℕ) (value : Value) → Entries → Entries

-- how many items a list has
abbrev pub count_values : Values → ℕ
count_values NoValue = 0
count_values (ValueThen v vs) = suc (count_values vs)

-- how many pairs a map has
abbrev pub count_entries : Entries → ℕ
count_entries NoEntry = 0
count_entries (EntryThen k v es) = suc (count_entries es)

-- ---- the one spelling (IPLD DAG-CBOR, strictness)

-- n, and -1 - n (RFC 8949, section 3.1)
abbrev pub spelling_of_integer : ℤ → List ℕ
spelling_of_integer (pos n) = head 0 n
spelling_of_integer (negsuc n) = head 1 n

-- (RFC 8949, section 3.3)
abbrev pub spelling_of_boolean : Bool → List ℕ
spelling_of_boolean false = 0xf4 ∷ []
spelling_of_boolean true = 0xf5 ∷ []

-- a byte string or a text: its length, and its bytes
abbrev pub string : ℕ → List ℕ → List ℕ
string major bytes = head major (length bytes) ++ bytes

abbrev mutual
  pub spelling : Value → List ℕ
  spelling Null = 0xf6 ∷ []
  spelling (Boolean b) = spelling_of_boolean b
  spelling (Integer z) = spelling_of_integer z
  spelling (Bytes bytes) = string 2 bytes
  spelling (Text bytes) = string 3 bytes
  spelling (Items vs) = head 4 (count_values vs) ++ spelling_of_values vs
  spelling (Fields es) = head 5 (count_entries es) ++ spelling_of_entries es
  spelling (Link bytes) = head 6 42 ++ string 2 (0 ∷ bytes)

  pub spelling_of_values : Values → List ℕ
  spelling_of_values NoValue = []
  spelling_of_values (ValueThen v vs) = spelling v ++ spelling_of_values vs

  pub spelling_of_entries : Entries → List ℕ
  spelling_of_entries NoEntry = []
  spelling_of_entries (EntryThen key v es) = string 3 key ++ spelling v ++ spelling_of_entries es

-- map keys ascend, a shorter one first, and then bytewise (IPLD DAG-CBOR, strictness)
abbrev pub is_key_below : List ℕ → List ℕ → Bool
is_key_below a b = nat_lt (length a) (length b) || ((length a == length b) && is_lt (slice_cmp nat_cmp a b))

-- after the key before it, if there is one
abbrev pub is_next_key : Option (List ℕ) → List ℕ → Bool
is_next_key None key = true
is_next_key (Some before) key = is_key_below before key

-- a length that a head can say (RFC 8949, section 3)
abbrev pub fits_length : List ℕ → Bool
fits_length bytes = nat_lt (length bytes) (2 ^ 64)

-- whole numbers of 64 bits with a sign (a choice of this project: DAG-CBOR itself goes from -2 ^ 64 to
-- 2 ^ 64 - 1)
abbrev pub is_signed_64 : ℤ → Bool
is_signed_64 (pos n) = nat_lt n (2 ^ 63)
is_signed_64 (negsuc n) = nat_lt n (2 ^ 63)

-- what has a spelling, with this many levels of lists and maps
abbrev mutual
  pub is_lawful_within : ℕ → Value → Bool
  is_lawful_within levels Null = true
  is_lawful_within levels (Boolean b) = true
  is_lawful_within levels (Integer z) = is_signed_64 z
  is_lawful_within levels (Bytes bytes) = fits_length bytes
  is_lawful_within levels (Text bytes) = fits_length bytes && is_utf8 bytes
  is_lawful_within zero (Items vs) = false
  is_lawful_within (suc levels) (Items vs) = nat_lt (count_values vs) (2 ^ 64) && are_lawful_within levels vs
  is_lawful_within zero (Fields es) = false
  is_lawful_within (suc levels) (Fields es) = nat_lt (count_entries es) (2 ^ 64) && are_entries_within levels None es
  is_lawful_within levels (Link bytes) = fits_length (0 ∷ bytes) && is_cid bytes

  pub are_lawful_within : ℕ → Values → Bool
  are_lawful_within levels NoValue = true
  are_lawful_within levels (ValueThen v vs) = is_lawful_within levels v && are_lawful_within levels vs

  pub are_entries_within : ℕ → Option (List ℕ) → Entries → Bool
  are_entries_within levels before NoEntry = true
  are_entries_within levels before (EntryThen key v es) =
      is_next_key before key && fits_length key && is_utf8 key && is_lawful_within levels v && are_entries_within levels (Some key) es

-- at most 64 levels (this bound is a choice of this project)
abbrev pub is_lawful : Value → Bool
is_lawful v = is_lawful_within 64 v

-- ---- reading, from left to right, with the first fault (the order of the faults is a choice of this project)

-- what is read at the front, and the bytes after it
abbrev pub CborReader : Type 0 → Type 0
CborReader A = List ℕ → Result (A × List ℕ) CborFault

-- behind the head of a whole number
abbrev pub integer_of : (ℕ → ℤ) → ℕ → CborReader Value
integer_of sign n bytes = do
  ok ← ensure (nat_lt n (2 ^ 63)) IntegerRange
  Ok (Integer (sign n), bytes)

-- n bytes of UTF-8 behind their head
abbrev pub text_of : ℕ → CborReader (List ℕ)
text_of n bytes = do
  t ← front Truncated n bytes
  ok ← ensure (is_utf8 t.0) BadUtf8
  Ok t

-- an item whose first byte has to have this major type
abbrev pub head_of : ℕ → CborFault → CborReader ℕ
head_of major fault [] = Err Truncated
head_of major fault (b ∷ bytes) = do
  ok ← ensure (b / 32 == major) fault
  h ← head_at (b ∷ bytes)
  Ok (h.0.1, h.1)

-- behind the head of a tag: 42 alone, over 00 and a CID (IPLD DAG-CBOR, links)
abbrev pub link_of : ℕ → CborReader Value
link_of tag bytes = do
  tag_ok ← ensure (tag == 42) BadTag
  n ← head_of 2 BadLink bytes
  content ← front Truncated n.0 n.1
  ok ← ensure (nat_lt 0 (length content.0) && (slice_index content.0 0 == 0) && is_cid (drop 1 content.0)) BadLink
  Ok (Link (drop 1 content.0), content.1)

-- n items, each read by value
abbrev pub items_at : CborReader Value → ℕ → CborReader Values
items_at value zero bytes = Ok (NoValue, bytes)
items_at value (suc n) bytes = do
  v ← value bytes
  vs ← items_at value n v.1
  Ok (ValueThen v.0 vs.0, vs.1)

-- a map's key after the key before it
abbrev pub key_of : Option (List ℕ) → CborReader (List ℕ)
key_of before bytes = do
  n ← head_of 3 KeyNotText bytes
  key ← text_of n.0 n.1
  ok ← ensure (is_next_key before key.0) KeyOrder
  Ok key

-- n pairs of a key and a value, after the key before them
abbrev pub fields_at : CborReader Value → Option (List ℕ) → ℕ → CborReader Entries
fields_at value before zero bytes = Ok (NoEntry, bytes)
fields_at value before (suc n) bytes = do
  key ← key_of before bytes
  v ← value key.1
  es ← fields_at value (Some key.0) n v.1
  Ok (EntryThen key.0 v.0 es.0, es.1)

-- 20, 21 and 22 (RFC 8949, section 3.3)
abbrev pub simple_value : ℕ → Value
simple_value n = if n == 20 then Boolean false else if n == 21 then Boolean true else Null

-- what follows a head, where the items of lists and maps are read by within, or no level is left for them
abbrev pub content_of : Result (CborReader Value) CborFault → Major → ℕ → CborReader Value
content_of within UnsignedInteger n bytes = integer_of pos n bytes
content_of within NegativeInteger n bytes = integer_of negsuc n bytes
content_of within ByteString n bytes = do
  content ← front Truncated n bytes
  Ok (Bytes content.0, content.1)
content_of within TextString n bytes = do
  content ← text_of n bytes
  Ok (Text content.0, content.1)
content_of within Array n bytes = do
  value ← within
  items ← items_at value n bytes
  Ok (Items items.0, items.1)
content_of within Map n bytes = do
  value ← within
  entries ← fields_at value None n bytes
  Ok (Fields entries.0, entries.1)
content_of within Tag n bytes = link_of n bytes
content_of within SimpleValue n bytes = Ok (simple_value n, bytes)

-- a value at the front, with this many levels left for lists and maps
unfoldable pub value_at : ℕ → CborReader Value
value_at zero bytes = do
  h ← head_at bytes
  content_of (Err TooDeep) (major_of h.0.0) h.0.1 h.1
value_at (suc levels) bytes = do
  h ← head_at bytes
  content_of (Ok (value_at levels)) (major_of h.0.0) h.0.1 h.1

-- all of the bytes
unfoldable pub read : List ℕ → Result Value CborFault
read bytes = do
  v ← value_at 64 bytes
  ok ← ensure (length v.1 == 0) Trailing
  Ok v.0

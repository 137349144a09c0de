-- What a JSON text means as a value, or its first fault and where that is.
--
-- The order of the faults is a choice of this project: first whether the text is JSON at all; then from the outside in, and in the order of keys in DAG-CBOR;
-- whether the whole is a map comes last.
use Rattle.std.specs.Prelude.{ℕ, zero, suc, ◌/◌, ◌%◌, ◌==◌, Bool, true, false, ◌&&◌, ◌||◌, not, List, [], ◌∷◌, ◌++◌, length, drop, decimal, nat_lt, if◌then◌else◌, Option, Some, None, Result, Ok, Err}
use Rattle.std.specs.Char.{is_ascii_digit}
use Rattle.std.specs.List.{flat_map, list_all}
use Rattle.std.specs.Fmt.{digit_glyph}
use Rattle.std.specs.Str.{bytes_eq}
use Rattle.std.specs.Str.Parse.{starts_with_minus, signed_digits_value}
use Rattle.base64.specs.Engines.{standard_no_pad_indifferent}
use Rattle.base64.specs.GeneralPurpose.{decode_of}
use Rattle.json.specs.Json as json
use Rattle.spec.specs.Reading.{◌>>=◌, ensure}
use Rattle.spec.specs.DagCbor.{Value, Null, Boolean, Integer, Bytes, Text, Items, Fields, Link, Values, NoValue, ValueThen, Entries, NoEntry, EntryThen}
use Rattle.spec.specs.Writes.{is_map}
use Rattle.record_json.specs.LinkText.{link_of_text}
use Rattle.record_json.specs.Form.{link_key, is_reserved, is_safe}
use Rattle.record_json.specs.KeyOrder.{in_order, keys_of, doubled_key}

-- why a text is no record
pub data Kind : Type 0 where
  NotJson : Kind
  DoubledKey : Kind
  Float : Kind
  IntegerRange : Kind
  BadLink : Kind
  BadBytes : Kind
  BadDollar : Kind
  TooDeep : Kind
  NotAMap : Kind

-- ---- where a fault is

-- a fault, and the way to it from the outside
pub record Fault : Type 0 where
  pub kind : Kind
  pub path : List ℕ

-- a graphic character of ASCII, but for `%`, `.`, `[` and `]`
abbrev pub is_plain : ℕ → Bool
is_plain x = nat_lt 32 x && nat_lt x 127 && not (x == 37) && not (x == 46) && not (x == 91) && not (x == 93)

-- what a way shows for a byte of a key: the byte, or `%` and its two hexadecimal digits (RFC 3986, section 2.1)
abbrev pub shown : ℕ → List ℕ
shown x = if is_plain x then x ∷ [] else 37 ∷ digit_glyph true (x / 16) ∷ digit_glyph true (x % 16) ∷ []

-- a step to the value of a key, `.key`
abbrev pub at_key : List ℕ → List ℕ
at_key k = 46 ∷ flat_map shown k

-- a step to an item by its place from 0, `[place]`
abbrev pub at_place : ℕ → List ℕ
at_place i = 91 ∷ (decimal i ++ 93 ∷ [])

-- what is wrong is wrong here
abbrev pub here : {X : Type 0} → Result X Kind → Result X Fault
here (Ok x) = Ok x
here (Err k) = Err (record { kind = k; path = [] })

-- what is wrong is wrong below this step
abbrev pub below : {X : Type 0} → List ℕ → Result X Fault → Result X Fault
below step (Ok x) = Ok x
below step (Err f) = Err (record { kind = f.kind; path = step ++ f.path })

-- ---- numbers, links and bytes

-- decimal digits, one at least
abbrev pub is_numeral : List ℕ → Bool
is_numeral ds = nat_lt 0 (length ds) && list_all is_ascii_digit ds

abbrev pub without_minus : List ℕ → List ℕ
without_minus s = if starts_with_minus s then drop 1 s else s

-- digits alone, behind a minus or not, and so no point and no exponent, even where the number is whole; -0 is 0
abbrev pub integer_of : List ℕ → Result Value Kind
integer_of s = do
  digits_ok ← ensure (is_numeral (without_minus s)) Float
  range_ok ← ensure (is_safe (signed_digits_value 10 s)) IntegerRange
  Ok (Integer (signed_digits_value 10 s))

abbrev pub or_bad_link : Option (List ℕ) → Result Value Kind
or_bad_link None = Err BadLink
or_bad_link (Some c) = Ok (Link c)

abbrev pub link_in : json.Json → Result Value Kind
link_in json.null = Err BadLink
link_in (json.boolean b) = Err BadLink
link_in (json.number s) = Err BadLink
link_in (json.string s) = or_bad_link (link_of_text s)
link_in (json.array js) = Err BadLink
link_in (json.object ms) = Err BadLink

abbrev pub or_bad_bytes : {E : Type 0} → Result (List ℕ) E → Result Value Kind
or_bad_bytes (Err e) = Err BadBytes
or_bad_bytes (Ok b) = Ok (Bytes b)

-- base 64 in the standard alphabet, with padding or without, and with zero bits at its end (RFC 4648, section 4)
abbrev pub bytes_in : json.Json → Result Value Kind
bytes_in json.null = Err BadBytes
bytes_in (json.boolean b) = Err BadBytes
bytes_in (json.number s) = Err BadBytes
bytes_in (json.string s) = or_bad_bytes (decode_of standard_no_pad_indifferent s)
bytes_in (json.array js) = Err BadBytes
bytes_in (json.object ms) = Err BadBytes

abbrev pub has_reserved : json.Members → Bool
has_reserved json.no_members = false
has_reserved (json.member k j ms) = is_reserved k || has_reserved ms

-- an object with a key that stands for a link or for bytes has no other
abbrev pub special_of : json.Members → Result Value Kind
special_of json.no_members = Err BadDollar
special_of (json.member k j json.no_members) = if bytes_eq k link_key then link_in j else bytes_in j
special_of (json.member k j (json.member k' j' ms)) = Err BadDollar

-- an object that stands for no link and no bytes
abbrev pub is_map_tree : json.Json → Bool
is_map_tree json.null = false
is_map_tree (json.boolean b) = false
is_map_tree (json.number s) = false
is_map_tree (json.string s) = false
is_map_tree (json.array js) = false
is_map_tree (json.object ms) = not (has_reserved ms)

-- ---- values

abbrev pub members_list : json.Members → List (List ℕ × json.Json)
members_list json.no_members = []
members_list (json.member k j ms) = (k, j) ∷ members_list ms

abbrev pub distinct : Option (List ℕ) → Result (Unit {0}) Fault
distinct None = Ok tt
distinct (Some k) = Err (record { kind = DoubledKey; path = at_key k })

-- an object, by its members and by what these mean as a map
abbrev pub object_of : json.Members → Result Entries Fault → Result Value Fault
object_of ms entries = do
  each_once ← distinct (doubled_key (keys_of (in_order (members_list ms))))
  if has_reserved ms then here (special_of ms) else (do
    es ← entries
    Ok (Fields es))

-- one after the other
abbrev pub entries_of : List (List ℕ × Result Value Fault) → Result Entries Fault
entries_of [] = Ok NoEntry
entries_of (m ∷ ms) = do
  v ← below (at_key m.0) m.1
  es ← entries_of ms
  Ok (EntryThen m.0 v es)

-- with this many levels left for lists and maps
abbrev mutual
  pub value_at : ℕ → json.Json → Result Value Fault
  value_at levels json.null = Ok Null
  value_at levels (json.boolean b) = Ok (Boolean b)
  value_at levels (json.number s) = here (integer_of s)
  value_at levels (json.string s) = Ok (Text s)
  value_at zero (json.array js) = here (Err TooDeep)
  value_at (suc levels) (json.array js) = do
    vs ← values_from levels 0 js
    Ok (Items vs)
  value_at zero (json.object ms) = object_of ms (here (Err TooDeep))
  value_at (suc levels) (json.object ms) = object_of ms (entries_of (in_order (members_at levels ms)))

  -- the items from this place on
  pub values_from : ℕ → ℕ → json.Items → Result Values Fault
  values_from levels i json.no_items = Ok NoValue
  values_from levels i (json.item j js) = do
    v ← below (at_place i) (value_at levels j)
    vs ← values_from levels (suc i) js
    Ok (ValueThen v vs)

  -- what each member means
  pub members_at : ℕ → json.Members → List (List ℕ × Result Value Fault)
  members_at levels json.no_members = []
  members_at levels (json.member k j ms) = (k, value_at levels j) ∷ members_at levels ms

-- at most 64 levels, as in DAG-CBOR here
unfoldable pub value_of_tree : json.Json → Result Value Fault
value_of_tree j = value_at 64 j

-- JSON nests to 128 here, of which a value takes 65 at most: deeper texts are not JSON
abbrev pub or_not_json : Option json.Json → Result json.Json Kind
or_not_json None = Err NotJson
or_not_json (Some j) = Ok j

unfoldable pub value_of_json : List ℕ → Result Value Fault
value_of_json s = do
  j ← here (or_not_json (json.document s))
  v ← value_of_tree j
  map_ok ← here (ensure (is_map v) NotAMap)
  Ok v

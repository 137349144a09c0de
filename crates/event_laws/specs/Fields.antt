-- The fields of a message's second value, and what a value is as one of them.
use Rattle.std.specs.Prelude.{ℕ, pos, negsuc, ℤ, Bool, true, false, ◌&&◌, List, codes, if◌then◌else◌, is_none, Option, Some, None}
use Rattle.std.specs.Str.{bytes_eq}
use Rattle.spec.specs.Cid.{is_own_cid}
use Rattle.spec.specs.DagCbor.{Value, Null, Boolean, Integer, Bytes, Text, Items, Link, Values, NoValue, ValueThen, Entries, NoEntry, EntryThen}

-- the fields that are read; others are passed over
pub data FieldName : Type 0 where
  Ops : FieldName
  Rev : FieldName
  Seq : FieldName
  Repo : FieldName
  Time : FieldName
  Blobs : FieldName
  Since : FieldName
  Blocks : FieldName
  Commit : FieldName
  Rebase : FieldName
  TooBig : FieldName
  PrevData : FieldName

abbrev pub field_name : FieldName → List ℕ
field_name Ops = codes "ops"
field_name Rev = codes "rev"
field_name Seq = codes "seq"
field_name Repo = codes "repo"
field_name Time = codes "time"
field_name Blobs = codes "blobs"
field_name Since = codes "since"
field_name Blocks = codes "blocks"
field_name Commit = codes "commit"
field_name Rebase = codes "rebase"
field_name TooBig = codes "tooBig"
field_name PrevData = codes "prevData"

-- the value of the field with a name
abbrev pub field : List ℕ → Entries → Option Value
field name NoEntry = None
field name (EntryThen key v es) = if bytes_eq key name then Some v else field name es

-- ---- what a value is, where a map has it

abbrev pub text_in : Option Value → Option (List ℕ)
text_in (Some (Text t)) = Some t
text_in v = None

abbrev pub is_null : Option Value → Bool
is_null (Some Null) = true
is_null v = false

abbrev pub some_of : Option (List ℕ) → Option (Option (List ℕ))
some_of None = None
some_of (Some x) = Some (Some x)

abbrev pub text_or_null_in : Option Value → Option (Option (List ℕ))
text_or_null_in v = if is_null v then Some None else some_of (text_in v)

abbrev pub bytes_in : Option Value → Option (List ℕ)
bytes_in (Some (Bytes b)) = Some b
bytes_in v = None

abbrev pub natural : ℤ → Option ℕ
natural (pos n) = Some n
natural (negsuc n) = None

-- a whole number that isn't below 0
abbrev pub count_in : Option Value → Option ℕ
count_in (Some (Integer z)) = natural z
count_in v = None

abbrev pub flag_in : Option Value → Option Bool
flag_in (Some (Boolean b)) = Some b
flag_in v = None

-- a link whose CID is of the host's form
abbrev pub own_link : List ℕ → Option (List ℕ)
own_link c = if is_own_cid c then Some c else None

abbrev pub link_in : Option Value → Option (List ℕ)
link_in (Some (Link c)) = own_link c
link_in v = None

abbrev pub list_in : Option Value → Option Values
list_in (Some (Items vs)) = Some vs
list_in v = None

-- links of whichever form
abbrev pub is_link : Value → Bool
is_link (Link c) = true
is_link v = false

abbrev pub are_links : Values → Bool
are_links NoValue = true
are_links (ValueThen v vs) = is_link v && are_links vs

-- ---- what an operation has

abbrev pub link_or_null_in : Option Value → Option (Option (List ℕ))
link_or_null_in v = if is_null v then Some None else some_of (link_in v)

abbrev pub link_or_absent_in : Option Value → Option (Option (List ℕ))
link_or_absent_in v = if is_none v then Some None else some_of (link_in v)

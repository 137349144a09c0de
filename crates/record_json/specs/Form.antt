-- The JSON form of a value (AT Protocol data model; RFC 8259), and which values have one.
use Rattle.std.specs.Prelude.{ℕ, ◌-◌, ◌^◌, Bool, true, ◌&&◌, ◌||◌, not, List, codes, nat_lt, ℤ, pos, negsuc}
use Rattle.std.specs.Fmt.{signed_decimal}
use Rattle.std.specs.Str.{bytes_eq}
use Rattle.base64.specs.Engines.{standard_no_pad_indifferent}
use Rattle.base64.specs.GeneralPurpose.{encode_of}
use Rattle.json.specs.Json as json
use Rattle.json.specs.Print.{print}
use Rattle.json.specs.Tree.{json_tokens}
use Rattle.spec.specs.Cid.{text, is_version_1}
use Rattle.spec.specs.DagCbor.{Value, Null, Boolean, Integer, Bytes, Text, Items, Fields, Link, Values, NoValue, ValueThen, Entries, NoEntry, EntryThen}

-- the keys that stand for links and for bytes, and so for no field (AT Protocol data model)
abbrev pub link_key : List ℕ
link_key = codes "$link"

abbrev pub bytes_key : List ℕ
bytes_key = codes "$bytes"

abbrev pub is_reserved : List ℕ → Bool
is_reserved key = bytes_eq key link_key || bytes_eq key bytes_key

-- an object of one member, which is a text
abbrev pub wrapped : List ℕ → List ℕ → json.Json
wrapped key s = json.object (json.member key (json.string s) json.no_members)

-- the tree of objects, lists and texts; base 64 is written without padding (RFC 4648, section 4)
abbrev mutual
  pub tree_of : Value → json.Json
  tree_of Null = json.null
  tree_of (Boolean b) = json.boolean b
  tree_of (Integer z) = json.number (signed_decimal z)
  tree_of (Bytes b) = wrapped bytes_key (encode_of standard_no_pad_indifferent b)
  tree_of (Text t) = json.string t
  tree_of (Items vs) = json.array (trees_of vs)
  tree_of (Fields es) = json.object (members_of es)
  tree_of (Link c) = wrapped link_key (text c)

  pub trees_of : Values → json.Items
  trees_of NoValue = json.no_items
  trees_of (ValueThen v vs) = json.item (tree_of v) (trees_of vs)

  pub members_of : Entries → json.Members
  members_of NoEntry = json.no_members
  members_of (EntryThen k v es) = json.member k (tree_of v) (members_of es)

-- the one text: keys in the order of DAG-CBOR, no spaces, and the shortest escapes
abbrev pub json_of : Value → List ℕ
json_of v = print (json_tokens (tree_of v))

-- what each reader of JSON holds exactly (AT Protocol data model; RFC 7493, section 2.2): from -(2 ^ 53 - 1) to 2 ^ 53 - 1
abbrev pub is_safe : ℤ → Bool
is_safe (pos n) = nat_lt n (2 ^ 53)
is_safe (negsuc n) = nat_lt n (2 ^ 53 - 1)

-- Which lawful values have a JSON form: those of safe integers, of links of version 1 (the text of version 0 is of another
-- base), and without a key that stands for a link or for bytes.
abbrev mutual
  pub has_form : Value → Bool
  has_form Null = true
  has_form (Boolean b) = true
  has_form (Integer z) = is_safe z
  has_form (Bytes b) = true
  has_form (Text t) = true
  has_form (Items vs) = have_form vs
  has_form (Fields es) = fields_have_form es
  has_form (Link c) = is_version_1 c

  pub have_form : Values → Bool
  have_form NoValue = true
  have_form (ValueThen v vs) = has_form v && have_form vs

  pub fields_have_form : Entries → Bool
  fields_have_form NoEntry = true
  fields_have_form (EntryThen k v es) = not (is_reserved k) && has_form v && fields_have_form es

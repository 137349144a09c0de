-- A message #commit (AT Protocol, event streams and sync 1.1): two values of DAG-CBOR one after the other.
use Rattle.std.specs.Prelude.{ℕ, pos, false, List, ◌++◌, codes, Option}
use Rattle.spec.specs.DagCbor.{Value, Boolean, Integer, Bytes, Text, Items, Fields, Link, NoValue, Entries, NoEntry, EntryThen, spelling}
use Rattle.change_laws.specs.Told.{KeyChange}
use Rattle.event_laws.specs.Ops.{text_or_null, values_of_ops}

-- what a message says: its number in the stream, whose repository it is, the CID of the signed commit, the revision of the
-- batch and that of the one before, the bytes of a CAR file, what each key had and has, when it was sent, and the root before
pub record Event : Type 0 where
  pub seq : ℕ
  pub did : List ℕ
  pub commit : List ℕ
  pub rev : List ℕ
  pub since : Option (List ℕ)
  pub blocks : List ℕ
  pub ops : List KeyChange
  pub time : List ℕ
  pub before : List ℕ

-- the first value: the message's type, and that it is no error
abbrev pub header_value : Value
header_value =
    Fields (EntryThen (codes "t") (Text (codes "#commit")) (EntryThen (codes "op") (Integer (pos 1)) NoEntry))

-- ---- the second one, a map of twelve fields in the order of DAG-CBOR; blobs are none, and rebase and tooBig false

abbrev pub last_fields : Event → Entries
last_fields e =
    EntryThen (codes "commit") (Link e.commit)
    (EntryThen (codes "rebase") (Boolean false)
    (EntryThen (codes "tooBig") (Boolean false)
    (EntryThen (codes "prevData") (Link e.before) NoEntry)))

abbrev pub middle_fields : Event → Entries
middle_fields e =
    EntryThen (codes "time") (Text e.time)
    (EntryThen (codes "blobs") (Items NoValue)
    (EntryThen (codes "since") (text_or_null e.since)
    (EntryThen (codes "blocks") (Bytes e.blocks) (last_fields e))))

abbrev pub fields_of_event : Event → Entries
fields_of_event e =
    EntryThen (codes "ops") (Items (values_of_ops e.ops))
    (EntryThen (codes "rev") (Text e.rev)
    (EntryThen (codes "seq") (Integer (pos e.seq))
    (EntryThen (codes "repo") (Text e.did) (middle_fields e))))

-- ---- bytes

abbrev pub header_bytes : List ℕ
header_bytes = spelling header_value

abbrev pub event_bytes : Event → List ℕ
event_bytes e = header_bytes ++ spelling (Fields (fields_of_event e))

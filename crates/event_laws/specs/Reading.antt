-- What the bytes of a message say, with the first fault (the names and the order of the faults are a choice of this project).
use Rattle.std.specs.Prelude.{ℕ, suc, Bool, false, ◌&&◌, not, List, [], ◌∷◌, length, take, drop, nat_le, codes, if◌then◌else◌, Option, Some, None, Result, Ok, Err}
use Rattle.std.specs.Str.{bytes_eq}
use Rattle.spec.specs.Reading.{◌>>=◌, ensure}
use Rattle.spec.specs.Head.{CborFault}
use Rattle.spec.specs.DagCbor.{Value, Fields, Values, NoValue, ValueThen, Entries, count_values, read}
use Rattle.spec.specs.Keys.{is_repository_key}
use Rattle.spec.specs.Stamps.{is_did, is_next_rev, is_tid}
use Rattle.change_laws.specs.Told.{KeyChange}
use Rattle.event_times.specs.Limits.{most_ops, most_blocks_bytes, most_message_bytes}
use Rattle.event_times.specs.Times.{is_time}
use Rattle.event_laws.specs.Ops.{action_of}
use Rattle.event_laws.specs.Events.{Event, header_bytes}
use Rattle.event_laws.specs.Fields.{FieldName, Ops, Rev, Seq, Repo, Time, Blobs, Since, Blocks, Commit, Rebase, TooBig, PrevData, field_name, field, text_in, text_or_null_in, bytes_in, count_in, flag_in, link_in, list_in, are_links, link_or_null_in, link_or_absent_in}

-- Why bytes are no message: the first of these, in this order. The second value isn't DAG-CBOR, or no map; a field isn't there, or
-- of another kind; what it says is out of bounds or of no lawful form; an operation is none, by its place from 0.
pub data FormFault : Type 0 where
  MessageSize : FormFault
  NotCommit : FormFault
  Cbor : CborFault → FormFault
  NotAMap : FormFault
  BadField : FieldName → FormFault
  IsRebase : FormFault
  IsTooBig : FormFault
  TooManyOps : FormFault
  BlocksSize : FormFault
  BadDid : FormFault
  BadRev : FormFault
  BadSince : FormFault
  RevOrder : FormFault
  BadTime : FormFault
  BadOp : ℕ → FormFault

-- ---- operations

abbrev pub is_named : Option (List ℕ) → List ℕ → Bool
is_named None action = false
is_named (Some wanted) action = bytes_eq wanted action

-- a change of a record's key that is called what it is
abbrev pub op_if : List ℕ → KeyChange → Option KeyChange
op_if action c =
    if is_repository_key c.key && is_named (action_of c.before c.after) action then Some c else None

abbrev pub op_with : Option (List ℕ) → Option (List ℕ) → Option (Option (List ℕ)) → Option (Option (List ℕ))
    → Option KeyChange
op_with (Some action) (Some key) (Some after) (Some before) =
    op_if action (record { key = key; before = before; after = after })
op_with action key after before = None

abbrev pub op_of_fields : Entries → Option KeyChange
op_of_fields es =
    op_with (text_in (field (codes "action") es)) (text_in (field (codes "path") es))
    (link_or_null_in (field (codes "cid") es)) (link_or_absent_in (field (codes "prev") es))

abbrev pub op_of : Value → Option KeyChange
op_of (Fields es) = op_of_fields es
op_of v = None

abbrev pub op_and : ℕ → Option KeyChange → Result (List KeyChange) FormFault → Result (List KeyChange) FormFault
op_and place None more = Err (BadOp place)
op_and place (Some op) more = more >>= λ ops. Ok (op ∷ ops)

-- the operations of a list, the first of them at a place
abbrev pub ops_in : ℕ → Values → Result (List KeyChange) FormFault
ops_in place NoValue = Ok []
ops_in place (ValueThen v vs) = op_and place (op_of v) (ops_in (suc place) vs)

-- ---- fields

-- what the fields of a message say, before it is looked at
pub record Said : Type 0 where
  pub items : Values
  pub rev : List ℕ
  pub seq : ℕ
  pub did : List ℕ
  pub time : List ℕ
  pub since : Option (List ℕ)
  pub blocks : List ℕ
  pub commit : List ℕ
  pub rebase : Bool
  pub too_big : Bool
  pub before : List ℕ

abbrev pub wanted : {A : Type 0} → FieldName → Option A → Result A FormFault
wanted name None = Err (BadField name)
wanted name (Some x) = Ok x

-- a field as a value of a kind
unfoldable pub taken : {A : Type 0} → (Option Value → Option A) → FieldName → Entries → Result A FormFault
taken kind name es = wanted name (kind (field (field_name name) es))

unfoldable pub said_of : Entries → Result Said FormFault
said_of es = do
  items ← taken list_in Ops es
  rev ← taken text_in Rev es
  seq ← taken count_in Seq es
  did ← taken text_in Repo es
  time ← taken text_in Time es
  blobs ← taken list_in Blobs es
  links ← ensure (are_links blobs) (BadField Blobs)
  since ← taken text_or_null_in Since es
  blocks ← taken bytes_in Blocks es
  commit ← taken link_in Commit es
  rebase ← taken flag_in Rebase es
  too_big ← taken flag_in TooBig es
  before ← taken link_in PrevData es
  Ok (record { items = items; rev = rev; seq = seq; did = did; time = time; since = since; blocks = blocks; commit = commit; rebase = rebase; too_big = too_big; before = before })

-- ---- what they say

abbrev pub since_test : Option (List ℕ) → List ℕ → Result (Unit {0}) FormFault
since_test None rev = Ok tt
since_test (Some since) rev = do
  tid ← ensure (is_tid since) BadSince
  ensure (is_next_rev (Some since) rev) RevOrder

unfoldable pub said_test : Said → Result (Unit {0}) FormFault
said_test s = do
  no_rebase ← ensure (not s.rebase) IsRebase
  whole ← ensure (not s.too_big) IsTooBig
  few ← ensure (nat_le (count_values s.items) most_ops) TooManyOps
  small ← ensure (nat_le (length s.blocks) most_blocks_bytes) BlocksSize
  did_ok ← ensure (is_did s.did) BadDid
  rev_ok ← ensure (is_tid s.rev) BadRev
  since_ok ← since_test s.since s.rev
  ensure (is_time s.time) BadTime

-- ---- the message

abbrev pub event_with : Said → List KeyChange → Event
event_with s ops = record {
  seq = s.seq;
  did = s.did;
  commit = s.commit;
  rev = s.rev;
  since = s.since;
  blocks = s.blocks;
  ops = ops;
  time = s.time;
  before = s.before;
}

-- what a map says as a message
unfoldable pub event_of_fields : Entries → Result Event FormFault
event_of_fields es = do
  s ← said_of es
  ok ← said_test s
  ops ← ops_in 0 s.items
  Ok (event_with s ops)

abbrev pub event_of_value : Value → Result Event FormFault
event_of_value (Fields es) = event_of_fields es
event_of_value v = Err NotAMap

abbrev pub or_cbor : {A : Type 0} → Result A CborFault → Result A FormFault
or_cbor (Ok v) = Ok v
or_cbor (Err f) = Err (Cbor f)

-- what stands behind the first value
unfoldable pub body_of : List ℕ → Result (List ℕ) FormFault
body_of bytes = do
  size ← ensure (nat_le (length bytes) most_message_bytes) MessageSize
  head ← ensure (bytes_eq (take (length header_bytes) bytes) header_bytes) NotCommit
  Ok (drop (length header_bytes) bytes)

-- what the bytes say
unfoldable pub read_event : List ℕ → Result Event FormFault
read_event bytes = do
  body ← body_of bytes
  v ← or_cbor (read body)
  event_of_value v

-- Operations: what a message tells of a key (the lexicon's repoOp). A create has nothing before, a delete nothing after, and an
-- update another record before than after.
use Rattle.std.specs.Prelude.{ℕ, Bool, is_some, List, [], ◌∷◌, filter, codes, if◌then◌else◌, Option, Some, None}
use Rattle.std.specs.Str.{bytes_eq}
use Rattle.spec.specs.DagCbor.{Value, Null, Text, Fields, Link, Values, NoValue, ValueThen, Entries, NoEntry, EntryThen}
use Rattle.change_laws.specs.Told.{KeyChange}

-- what an operation is called, and none where it leaves what there was
abbrev pub action_of : Option (List ℕ) → Option (List ℕ) → Option (List ℕ)
action_of None None = None
action_of None (Some after) = Some (codes "create")
action_of (Some before) None = Some (codes "delete")
action_of (Some before) (Some after) = if bytes_eq before after then None else Some (codes "update")

abbrev pub is_op : KeyChange → Bool
is_op c = is_some (action_of c.before c.after)

-- of the changes of a batch those that leave another value than there was
abbrev pub ops_of : List KeyChange → List KeyChange
ops_of cs = filter is_op cs

-- ---- as a value, in the order of DAG-CBOR: cid, path, prev, action

abbrev pub link_or_null : Option (List ℕ) → Value
link_or_null None = Null
link_or_null (Some c) = Link c

-- prev stands where there was a record
abbrev pub with_prev : Option (List ℕ) → Entries → Entries
with_prev None es = es
with_prev (Some c) es = EntryThen (codes "prev") (Link c) es

-- the action, where there is one
abbrev pub text_or_null : Option (List ℕ) → Value
text_or_null None = Null
text_or_null (Some t) = Text t

abbrev pub fields_of_op : KeyChange → Entries
fields_of_op c =
    EntryThen (codes "cid") (link_or_null c.after)
    (EntryThen (codes "path") (Text c.key)
    (with_prev c.before
    (EntryThen (codes "action") (text_or_null (action_of c.before c.after)) NoEntry)))

abbrev pub values_of_ops : List KeyChange → Values
values_of_ops [] = NoValue
values_of_ops (c ∷ cs) = ValueThen (Fields (fields_of_op c)) (values_of_ops cs)

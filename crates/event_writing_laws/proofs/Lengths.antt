-- A message within the other bounds is within that of its bytes.
use Rattle.std.proofs.Common.{◌≡◌, ℕ, ◌+◌, ◌*◌, ◌≤◌, Bool, true, false, cond, ◌&&◌, leb, List, [], ◌∷◌, ◌++◌, length, take, drop, Option, Ok, arith}
use Rattle.std.specs.Prelude.{codes, pos}
use Rattle.std.specs.List.{AllByRecursion}
use Rattle.std.specs.Str.{bytes_eq}
use Rattle.std.specs.declared.option.Option.TheVariants.{Some, None}
use Rattle.std.proofs.lemmas.Bool.{leb-true}
use Rattle.std.proofs.lemmas.List.{length-append}
use Rattle.spec.specs.Cid.{is_own_cid}
use Rattle.spec.specs.Head.{head}
use Rattle.spec.specs.DagCbor.{Value, Boolean, Integer, Bytes, Text, Items, Fields, Link, NoValue, Values, Entries, NoEntry, EntryThen, count_entries, count_values, spelling, spelling_of_entries, spelling_of_values, string}
use Rattle.spec.specs.Keys.{is_repository_key}
use Rattle.spec.specs.NodeFormat.{is_own_cid_or_none}
use Rattle.spec.specs.Stamps.{is_did, is_tid}
use Rattle.spec.proofs.Bools.{both}
use Rattle.spec.proofs.RecordPairs.{repository-key}
use Rattle.spec.proofs.Taking.{ensure_ok}
use Rattle.export_laws.proofs.ShortBlocks.{did-short, head-short, own-length, rev-length, string-short}
use Rattle.change_laws.specs.Told.{KeyChange}
use Rattle.event_times.specs.Limits.{most_ops, most_blocks_bytes, most_message_bytes}
use Rattle.event_times.specs.Times.{fits, is_end, is_time}
use Rattle.event_laws.specs.Ops.{action_of, fields_of_op, link_or_null, text_or_null, values_of_ops, with_prev}
use Rattle.event_laws.specs.Events.{Event, event_bytes, fields_of_event, header_bytes, last_fields, middle_fields}
use Rattle.event_laws.specs.Reading.{BadSince, since_test}
use Rattle.event_reading_laws.specs.Laws.{IsOp}

-- ---- values

abbrev Within : ℕ → Value → Type 0
Within n v = length (spelling v) ≤ n

abbrev AreWithin : ℕ → Entries → Type 0
AreWithin n es = length (spelling_of_entries es) ≤ n

field-short : (n m : ℕ) (key : List ℕ) (v : Value) (es : Entries) → length key ≤ 8 → Within n v → AreWithin m es
    → AreWithin (n + m + 17) (EntryThen key v es)
field-short n m key v es k h i =
    let a = length-append (string 3 key ++ spelling v) (spelling_of_entries es) in
    let b = length-append (string 3 key) (spelling v) in
    let c = string-short 3 8 key k in
    omega (arith, a, b, c, h, i)

map-short : (n : ℕ) (es : Entries) → AreWithin n es → Within (n + 9) (Fields es)
map-short n es h =
    let a = length-append (head 5 (count_entries es)) (spelling_of_entries es) in
    let b = head-short 5 (count_entries es) in
    omega (arith, a, b, h)

list-short : (n : ℕ) (vs : Values) → length (spelling_of_values vs) ≤ n → Within (n + 9) (Items vs)
list-short n vs h =
    let a = length-append (head 4 (count_values vs)) (spelling_of_values vs) in
    let b = head-short 4 (count_values vs) in
    omega (arith, a, b, h)

text-short : (n : ℕ) (t : List ℕ) → length t ≤ n → Within (n + 9) (Text t)
text-short n t h = string-short 3 n t h

bytes-short : (n : ℕ) (t : List ℕ) → length t ≤ n → Within (n + 9) (Bytes t)
bytes-short n t h = string-short 2 n t h

one-more : (b : ℕ) (bs : List ℕ) → length bs ≡ 36 → length (b ∷ bs) ≤ 37
one-more b bs e = omega arith

link-within : (c : List ℕ) → is_own_cid c ≡ true → Within 60 (Link c)
link-within c own =
    let a = length-append (head 6 42) (string 2 (0 ∷ c)) in
    let b = head-short 6 42 in
    let d = string-short 2 37 (0 ∷ c) (one-more 0 c (own-length c own)) in
    omega (arith, a, b, d)

-- ---- operations

link-or-within : (o : Option (List ℕ)) → is_own_cid_or_none o ≡ true → Within 60 (link_or_null o)
link-or-within None h = omega arith
link-or-within (Some c) h = link-within c h

update-within : (t : Bool) → Within 60 (text_or_null (cond t None (Some (codes "update"))))
update-within true = omega arith
update-within false = text-short 51 (codes "update") (omega arith)

action-within : (before after : Option (List ℕ)) → Within 60 (text_or_null (action_of before after))
action-within None None = omega arith
action-within None (Some a) = text-short 51 (codes "create") (omega arith)
action-within (Some b) None = text-short 51 (codes "delete") (omega arith)
action-within (Some b) (Some a) = update-within (bytes_eq b a)

prev-within : (o : Option (List ℕ)) (es : Entries) → is_own_cid_or_none o ≡ true → AreWithin 77 es → AreWithin 154 (with_prev o es)
prev-within None es h k = omega (arith, k)
prev-within (Some c) es h k = field-short 60 77 (codes "prev") (Link c) es (omega arith) (link-within c h) k

path-short : (k : List ℕ) → is_repository_key k ≡ true → length k ≤ 1024
path-short k h = leb-true (length k) 1024 (both _ (leb (length k) 1024) (repository-key k h)).1

op-within : (c : KeyChange) → IsOp c → Within 1300 (Fields (fields_of_op c))
op-within c is =
    let action = text_or_null (action_of c.before c.after) in
    let last = EntryThen (codes "action") action NoEntry in
    let a : AreWithin 77 last = field-short 60 0 (codes "action") action NoEntry (omega arith) (action-within c.before c.after) (omega arith) in
    let p : AreWithin 154 (with_prev c.before last) = prev-within c.before last is.before a in
    let k = text-short 1024 c.key (path-short c.key is.key) in
    let path = EntryThen (codes "path") (Text c.key) (with_prev c.before last) in
    let b : AreWithin 1204 path = field-short 1033 154 (codes "path") (Text c.key) (with_prev c.before last) (omega arith) k p in
    let d : AreWithin 1281 (fields_of_op c) = field-short 60 1204 (codes "cid") (link_or_null c.after) path (omega arith) (link-or-within c.after is.after) b in
    let whole = map-short 1281 (fields_of_op c) d in
    omega (arith, whole)

ops-within : (cs : List KeyChange) → AllByRecursion IsOp cs → length (spelling_of_values (values_of_ops cs)) ≤ 1300 * length cs
ops-within [] h = omega arith
ops-within (c ∷ cs) h =
    let i = ops-within cs h.1 in
    let a = op-within c h.0 in
    let b = length-append (spelling (Fields (fields_of_op c))) (spelling_of_values (values_of_ops cs)) in
    omega (arith, i, a, b)

-- ---- a message

time-short : (t : List ℕ) → is_time t ≡ true → length t ≤ 64
time-short t h =
    let form = codes "0000-00-00T00:00:00" in
    let a = both (leb 19 (length t) && leb (length t) 64 && fits (take 19 t) form) (is_end (drop 19 t)) h in
    let b = both (leb 19 (length t) && leb (length t) 64) (fits (take 19 t) form) a.0 in
    leb-true (length t) 64 (both (leb 19 (length t)) (leb (length t) 64) b.0).1

at-most : (n m : ℕ) → n ≡ m → n ≤ m
at-most n m e = omega arith

rev-within : (r : List ℕ) → is_tid r ≡ true → Within 22 (Text r)
rev-within r h = text-short 13 r (at-most (length r) 13 (rev-length r h))

since-within : (o : Option (List ℕ)) (rev : List ℕ) → since_test o rev ≡ Ok tt → Within 22 (text_or_null o)
since-within None rev e = omega arith
since-within (Some s) rev e = rev-within s (ensure_ok (is_tid s) BadSince _ tt e).0

-- what is known of a message beside its length
pub record IsBounded (e : Event) : Type 0 where
  pub did : is_did e.did ≡ true
  pub commit : is_own_cid e.commit ≡ true
  pub rev : is_tid e.rev ≡ true
  pub since : since_test e.since e.rev ≡ Ok tt
  pub blocks : length e.blocks ≤ most_blocks_bytes
  pub few : length e.ops ≤ most_ops
  pub ops : AllByRecursion IsOp e.ops
  pub time : is_time e.time ≡ true
  pub before : is_own_cid e.before ≡ true

last-within : (e : Event) → IsBounded e → AreWithin 190 (last_fields e)
last-within e is =
    let prev = EntryThen (codes "prevData") (Link e.before) NoEntry in
    let big = EntryThen (codes "tooBig") (Boolean false) prev in
    let rebase = EntryThen (codes "rebase") (Boolean false) big in
    let a : AreWithin 77 prev = field-short 60 0 (codes "prevData") (Link e.before) NoEntry (omega arith) (link-within e.before is.before) (omega arith) in
    let b : AreWithin 95 big = field-short 1 77 (codes "tooBig") (Boolean false) prev (omega arith) (omega arith) a in
    let c : AreWithin 113 rebase = field-short 1 95 (codes "rebase") (Boolean false) big (omega arith) (omega arith) b in
    field-short 60 113 (codes "commit") (Link e.commit) rebase (omega arith) (link-within e.commit is.commit) c

middle-within : (e : Event) → IsBounded e → AreWithin 2000381 (middle_fields e)
middle-within e is =
    let blocks = EntryThen (codes "blocks") (Bytes e.blocks) (last_fields e) in
    let since = EntryThen (codes "since") (text_or_null e.since) blocks in
    let blobs = EntryThen (codes "blobs") (Items NoValue) since in
    let a : AreWithin 2000216 blocks = field-short 2000009 190 (codes "blocks") (Bytes e.blocks) (last_fields e) (omega arith) (bytes-short 2000000 e.blocks is.blocks) (last-within e is) in
    let b : AreWithin 2000255 since = field-short 22 2000216 (codes "since") (text_or_null e.since) blocks (omega arith) (since-within e.since e.rev is.since) a in
    let c : AreWithin 2000281 blobs = field-short 9 2000255 (codes "blobs") (Items NoValue) since (omega arith) (list-short 0 NoValue (omega arith)) b in
    let d : AreWithin 2000371 (middle_fields e) = field-short 73 2000281 (codes "time") (Text e.time) blobs (omega arith) (text-short 64 e.time (time-short e.time is.time)) c in
    omega (arith, d)

few-ops : (n size : ℕ) → size ≤ 1300 * n → n ≤ 200 → size ≤ 260000
few-ops n size a b = omega arith

fields-within : (e : Event) → IsBounded e → AreWithin 2263000 (fields_of_event e)
fields-within e is =
    let repo = EntryThen (codes "repo") (Text e.did) (middle_fields e) in
    let seq = EntryThen (codes "seq") (Integer (pos e.seq)) repo in
    let rev = EntryThen (codes "rev") (Text e.rev) seq in
    let items = values_of_ops e.ops in
    let a : AreWithin 2002455 repo = field-short 2057 2000381 (codes "repo") (Text e.did) (middle_fields e) (omega arith) (text-short 2048 e.did (did-short e.did is.did)) (middle-within e is) in
    let b : AreWithin 2002481 seq = field-short 9 2002455 (codes "seq") (Integer (pos e.seq)) repo (omega arith) (head-short 0 e.seq) a in
    let c : AreWithin 2002520 rev = field-short 22 2002481 (codes "rev") (Text e.rev) seq (omega arith) (rev-within e.rev is.rev) b in
    let ops = list-short 260000 items (few-ops (length e.ops) (length (spelling_of_values items)) (ops-within e.ops is.ops) is.few) in
    let d : AreWithin 2262546 (fields_of_event e) = field-short 260009 2002520 (codes "ops") (Items items) rev (omega arith) ops c in
    omega (arith, d)

header-short : length header_bytes ≤ 100
header-short = omega arith

pub event-short : (e : Event) → IsBounded e → length (event_bytes e) ≤ most_message_bytes
event-short e is =
    let a = map-short 2263000 (fields_of_event e) (fields-within e is) in
    let b = length-append header_bytes (spelling (Fields (fields_of_event e))) in
    let c = header-short in
    omega (arith, a, b, c)

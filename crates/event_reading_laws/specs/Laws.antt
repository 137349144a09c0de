-- What a message is made of, and that it is read back.
use Rattle.std.specs.Prelude.{◌≡◌, ◌<◌, ◌≤◌, ◌^◌, true, length, Ok}
use Rattle.std.specs.List.{AllByRecursion}
use Rattle.spec.specs.Cid.{is_own_cid}
use Rattle.spec.specs.Keys.{is_repository_key}
use Rattle.spec.specs.NodeFormat.{is_own_cid_or_none}
use Rattle.spec.specs.Stamps.{is_did, is_tid}
use Rattle.change_laws.specs.Told.{KeyChange}
use Rattle.event_times.specs.Limits.{most_ops, most_blocks_bytes, most_message_bytes}
use Rattle.event_times.specs.Times.{is_time}
use Rattle.event_laws.specs.Ops.{is_op}
use Rattle.event_laws.specs.Events.{Event, event_bytes}
use Rattle.event_laws.specs.Reading.{since_test, read_event}

-- a record's key that has another value after than before
pub record IsOp (c : KeyChange) : Type 0 where
  pub key : is_repository_key c.key ≡ true
  pub op : is_op c ≡ true
  pub before : is_own_cid_or_none c.before ≡ true
  pub after : is_own_cid_or_none c.after ≡ true

pub record IsEvent (e : Event) : Type 0 where
  pub seq : e.seq < 2 ^ 63
  pub did : is_did e.did ≡ true
  pub commit : is_own_cid e.commit ≡ true
  pub rev : is_tid e.rev ≡ true
  pub since : since_test e.since e.rev ≡ Ok tt
  pub blocks : length e.blocks ≤ most_blocks_bytes
  pub few : length e.ops ≤ most_ops
  pub ops : AllByRecursion IsOp e.ops
  pub time : is_time e.time ≡ true
  pub before : is_own_cid e.before ≡ true
  pub size : length (event_bytes e) ≤ most_message_bytes

-- what is written of a message is read as that message
abbrev pub WrittenIsRead : Type 0
WrittenIsRead = (e : Event) → IsEvent e → read_event (event_bytes e) ≡ Ok e

-- What a message that is lent stands for, and the definitions' names and faults that those of the code are.
use Rattle.std.specs.Prelude.{Option, Some, None, option_map}
use Rattle.cid.specs.CidRef.{bytes_of}
use Rattle.dagcbor.specs.Fault.{cbor_fault_of}
use Rattle.dagcbor.specs.View.{view_items}
use Rattle.event_laws.specs.Events as events
use Rattle.event_laws.specs.Fields as fields
use Rattle.event_laws.specs.Reading as reading
use Rattle.event_format.specs.declared.event.Event.{Event}
use Rattle.event_format.specs.declared.said.Said.{Said}
use Rattle.event_format.specs.declared.fault.Field.{Field}
use Rattle.event_format.specs.declared.fault.Field.TheVariants as names
use Rattle.event_format.specs.declared.fault.FormFault.{FormFault}
use Rattle.event_format.specs.declared.fault.FormFault.TheVariants as errors

abbrev pub event_of : {A : Type 0} → Event A → events.Event
event_of e = record {
  seq = e.seq;
  did = e.did.now;
  commit = bytes_of e.commit;
  rev = e.rev.now;
  since = option_map (λ s. s.now) e.since;
  blocks = e.blocks.now;
  ops = e.ops.items;
  time = e.time.now;
  before = bytes_of e.before;
}

abbrev pub said_of : {A : Type 0} → Said A → reading.Said
said_of s = record {
  items = view_items s.items.now.items;
  rev = s.rev.now;
  seq = s.seq;
  did = s.did.now;
  time = s.time.now;
  since = option_map (λ t. t.now) s.since;
  blocks = s.blocks.now;
  commit = bytes_of s.commit;
  rebase = s.is_rebase;
  too_big = s.is_too_big;
  before = bytes_of s.before;
}

abbrev pub name_of : Field → fields.FieldName
name_of names.Ops = fields.Ops
name_of names.Rev = fields.Rev
name_of names.Seq = fields.Seq
name_of names.Repo = fields.Repo
name_of names.Time = fields.Time
name_of names.Blobs = fields.Blobs
name_of names.Since = fields.Since
name_of names.Blocks = fields.Blocks
name_of names.Commit = fields.Commit
name_of names.Rebase = fields.Rebase
name_of names.TooBig = fields.TooBig
name_of names.PrevData = fields.PrevData

-- of a want of memory the definitions know nothing
abbrev pub form_fault_of : FormFault → Option reading.FormFault
form_fault_of errors.MessageSize = Some reading.MessageSize
form_fault_of errors.NotCommit = Some reading.NotCommit
form_fault_of (errors.Cbor f) = option_map reading.Cbor (cbor_fault_of f)
form_fault_of errors.NotAMap = Some reading.NotAMap
form_fault_of (errors.BadField f) = Some (reading.BadField (name_of f))
form_fault_of errors.Rebase = Some reading.IsRebase
form_fault_of errors.TooBig = Some reading.IsTooBig
form_fault_of errors.TooManyOps = Some reading.TooManyOps
form_fault_of errors.BlocksSize = Some reading.BlocksSize
form_fault_of errors.BadDid = Some reading.BadDid
form_fault_of errors.BadRev = Some reading.BadRev
form_fault_of errors.BadSince = Some reading.BadSince
form_fault_of errors.RevOrder = Some reading.RevOrder
form_fault_of errors.BadTime = Some reading.BadTime
form_fault_of (errors.BadOp place) = Some (reading.BadOp place)
form_fault_of errors.NoMemory = None

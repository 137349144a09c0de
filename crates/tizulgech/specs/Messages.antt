-- What is told of a message #commit, and why one isn't taken.
use Rattle.std.specs.Prelude.{◌≡◌, ℕ, List, [], ◌++◌, length, nat_eq, false, Option, Some, None, Result, Ok, Err}
use Rattle.std.specs.List.{flat_map}
use Rattle.sha2.specs.Sha256.{sha256}
use Rattle.spec.specs.CarReading as cars
use Rattle.spec.specs.CarReading.{Section}
use Rattle.change_laws.specs.Told.{KeyChange}
use Rattle.change_laws.specs.Given as changes
use Rattle.event_laws.specs.Events.{Event}
use Rattle.event_laws.specs.Fields as fields
use Rattle.event_laws.specs.Reading as forms
use Rattle.event_laws.specs.Verdict as events
use Rattle.event_laws.specs.Verdict.{Checked, commit_verdict}
use Rattle.buffers.specs.Answers.{number_bytes, part_bytes, value_bytes}
use Rattle.tizulgech.specs.Numbers.{IsHandedOr255, cbor_number, write_number}
use Rattle.tizulgech.specs.Signing.{commit_number, commit_spelt}

-- ---- how a message is spelt that is true

-- no bytes where there was no batch before
abbrev pub since_spelt : Option (List ℕ) → List ℕ
since_spelt None = part_bytes []
since_spelt (Some rev) = part_bytes rev

-- a key, and the CID of its record before and after, or zeros
abbrev pub change_spelt : KeyChange → List ℕ
change_spelt c = part_bytes c.key ++ value_bytes c.before ++ value_bytes c.after

-- how many there are, and each
abbrev pub changes_spelt : List KeyChange → List ℕ
changes_spelt cs = number_bytes (length cs) ++ flat_map change_spelt cs

-- the number in the stream, the CID of the commit, the revision before, the time, and the operations
abbrev pub event_spelt : Event → List ℕ
event_spelt e = number_bytes e.seq ++ e.commit ++ since_spelt e.since ++ part_bytes e.time ++ changes_spelt e.ops

abbrev pub section_spelt : Section → List ℕ
section_spelt s = s.cid ++ part_bytes s.block

-- the commit, what the message says beside it, and its blocks
abbrev pub checked_spelt : Checked → List ℕ
checked_spelt c = commit_spelt c.commit ++ event_spelt c.event ++ flat_map section_spelt c.sections

-- ---- why a message isn't taken: a number, and with some of them the place of an operation, of a field, or what DAG-CBOR faults are
-- numbered by

abbrev pub car_number : cars.CarFault → ℕ
car_number cars.BadHeader = 103
car_number cars.BadLength = 104
car_number cars.Truncated = 105
car_number cars.BadCid = 106

-- the fields in the order of DAG-CBOR
abbrev pub field_number : fields.FieldName → ℕ
field_number fields.Ops = 0
field_number fields.Rev = 1
field_number fields.Seq = 2
field_number fields.Repo = 3
field_number fields.Time = 4
field_number fields.Blobs = 5
field_number fields.Since = 6
field_number fields.Blocks = 7
field_number fields.Commit = 8
field_number fields.Rebase = 9
field_number fields.TooBig = 10
field_number fields.PrevData = 11

abbrev pub form_told : forms.FormFault → ℕ × ℕ
form_told forms.MessageSize = (107, 0)
form_told forms.NotCommit = (108, 0)
form_told (forms.Cbor f) = (109, cbor_number f)
form_told forms.NotAMap = (110, 0)
form_told (forms.BadField name) = (111, field_number name)
form_told forms.IsRebase = (112, 0)
form_told forms.IsTooBig = (113, 0)
form_told forms.TooManyOps = (114, 0)
form_told forms.BlocksSize = (115, 0)
form_told forms.BadDid = (27, 0)
form_told forms.BadRev = (28, 0)
form_told forms.BadSince = (116, 0)
form_told forms.RevOrder = (117, 0)
form_told forms.BadTime = (118, 0)
form_told (forms.BadOp place) = (119, place)

abbrev pub change_told : changes.ChangeFault → ℕ × ℕ
change_told (changes.BlockMissing c) = (129, 0)
change_told (changes.BadNode c) = (30, 0)
change_told changes.TooDeep = (31, 0)
change_told changes.NotTree = (35, 0)
change_told (changes.OtherValue place) = (33, place)
change_told changes.OtherRoot = (34, 0)

abbrev pub event_told : events.EventFault → ℕ × ℕ
event_told (events.OfForm f) = form_told f
event_told (events.DoubledPath place) = (120, place)
event_told events.OtherPrevious = (121, 0)
event_told (events.OfCar f) = (car_number f, 0)
event_told events.NotTheRoot = (122, 0)
event_told events.Misnamed = (123, 0)
event_told events.CommitMissing = (124, 0)
event_told (events.OfCommit f) = (commit_number f, 0)
event_told events.OtherDid = (125, 0)
event_told events.OtherRev = (126, 0)
event_told (events.RecordMissing place) = (127, place)
event_told (events.RecordSize place) = (128, place)
event_told (events.BadRecord place f) = (write_number f, place)
event_told (events.NotShown f) = change_told f

-- of a node that is missing, or none, its CID; of others what stood there
abbrev pub node_told : events.EventFault → List ℕ → List ℕ
node_told (events.NotShown (changes.BlockMissing c)) was = c
node_told (events.NotShown (changes.BadNode c)) was = c
node_told f was = was

-- a fault of the code as one of the definitions: of a want of memory these know nothing
abbrev pub told_or_want : {F : Type 0} → (F → ℕ × ℕ) → Option F → ℕ × ℕ
told_or_want told None = (255, 0)
told_or_want told (Some f) = told f

abbrev pub node_or_want : Option events.EventFault → List ℕ → List ℕ
node_or_want None was = was
node_or_want (Some f) was = node_told f was

-- ---- the check

-- what the message says, or its first fault
abbrev pub IsChecked : ℕ → ℕ → List ℕ → List ℕ → List ℕ → List ℕ → ℕ → Result Checked events.EventFault → Type 0
IsChecked code place was missing before room size (Ok c) = IsHandedOr255 code (checked_spelt c) before room size
IsChecked code place was missing before room size (Err f) =
    nat_eq code 255 ≡ false → ((code, place) ≡ event_told f) × (missing ≡ node_told f was)

-- 252 where the root before is no CID
abbrev pub IsCheckedFrom : ℕ → ℕ → List ℕ → List ℕ → List ℕ → List ℕ → ℕ → List ℕ → Option (List ℕ) → Type 0
IsCheckedFrom code place was missing before room size message None = code ≡ 252
IsCheckedFrom code place was missing before room size message (Some previous) =
    IsChecked code place was missing before room size (commit_verdict sha256 2 previous message)

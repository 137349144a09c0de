-- The names of faults, as standard error shows them (a choice of this project): a fault inside a fault stands in parentheses, and
-- before that of an operation stands its place in the message, from 0.
use Rattle.std.specs.Prelude.{ℕ, List, ◌++◌, codes, decimal}
use Rattle.car_reader.specs.declared.fault.CarFault.{CarFault}
use Rattle.car_reader.specs.declared.fault.CarFault.TheVariants as cars
use Rattle.change_proofs.specs.declared.change_fault.ChangeFault.{ChangeFault}
use Rattle.change_proofs.specs.declared.change_fault.ChangeFault.TheVariants as changes
use Rattle.commit_events.specs.declared.fault.EventFault.{EventFault}
use Rattle.commit_events.specs.declared.fault.EventFault.TheVariants as events
use Rattle.dagcbor.specs.declared.fault.CborFault.{CborFault}
use Rattle.event_blocks.specs.declared.fault.BlocksFault.{BlocksFault}
use Rattle.event_blocks.specs.declared.fault.BlocksFault.TheVariants as blocks
use Rattle.event_format.specs.declared.fault.Field.{Field}
use Rattle.event_format.specs.declared.fault.FormFault.{FormFault}
use Rattle.event_format.specs.declared.fault.FormFault.TheVariants as forms
use Rattle.event_format.specs.Views.{name_of}
use Rattle.event_laws.specs.Fields.{field_name}
use Rattle.event_writing.specs.declared.fault.UntoldFault.{UntoldFault}
use Rattle.event_writing.specs.declared.fault.UntoldFault.TheVariants as untold
use Rattle.record_rules.specs.Names as records
use Rattle.record_rules.specs.declared.fault.RecordFault.{RecordFault}
use Rattle.record_rules.specs.declared.fault.RecordFault.TheVariants as record_faults
use Rattle.repository_commands.specs.Names as texts
use Rattle.signed_commits.specs.declared.fault.CommitFault.{CommitFault}
use Rattle.signed_commits.specs.declared.fault.CommitFault.TheVariants as commits
use Rattle.spec.specs.Cid.{text}
use Rattle.event_commands.specs.declared.fault.MessageFault.{MessageFault}
use Rattle.event_commands.specs.declared.fault.MessageFault.TheVariants as errors

-- ---- the parts of a message

abbrev pub car_fault_name : CarFault → List ℕ
car_fault_name cars.BadHeader = codes "Car(BadHeader)"
car_fault_name cars.BadLength = codes "Car(BadLength)"
car_fault_name cars.Truncated = codes "Car(Truncated)"
car_fault_name cars.BadCid = codes "Car(BadCid)"
car_fault_name cars.NoMemory = codes "Car(NoMemory)"

abbrev pub commit_fault_name : CommitFault → List ℕ
commit_fault_name commits.NotACommit = codes "Commit(NotACommit)"
commit_fault_name commits.BadDid = codes "Commit(BadDid)"
commit_fault_name commits.BadRev = codes "Commit(BadRev)"

abbrev pub bad_record_name : RecordFault → List ℕ
bad_record_name record_faults.RecordSize = codes "RecordSize"
bad_record_name (record_faults.BadRecord fault) = records.bad_record_name fault
bad_record_name record_faults.NotAMap = codes "NotAMap"

abbrev pub cbor_fault_name : CborFault → List ℕ
cbor_fault_name fault = codes "Cbor(" ++ records.cbor_name fault ++ codes ")"

abbrev pub field_fault_name : Field → List ℕ
field_fault_name field = codes "BadField(" ++ field_name (name_of field) ++ codes ")"

-- what is said of the operation at a place
abbrev pub of_operation : ℕ → List ℕ → List ℕ
of_operation place name = codes "operation " ++ (decimal place ++ (codes ": " ++ name))

-- ---- a message

abbrev pub form_fault_name : FormFault → List ℕ
form_fault_name forms.MessageSize = codes "MessageSize"
form_fault_name forms.NotCommit = codes "NotCommit"
form_fault_name (forms.Cbor fault) = cbor_fault_name fault
form_fault_name forms.NotAMap = codes "NotAMap"
form_fault_name (forms.BadField field) = field_fault_name field
form_fault_name forms.Rebase = codes "Rebase"
form_fault_name forms.TooBig = codes "TooBig"
form_fault_name forms.TooManyOps = codes "TooManyOps"
form_fault_name forms.BlocksSize = codes "BlocksSize"
form_fault_name forms.BadDid = codes "BadDid"
form_fault_name forms.BadRev = codes "BadRev"
form_fault_name forms.BadSince = codes "BadSince"
form_fault_name forms.RevOrder = codes "RevOrder"
form_fault_name forms.BadTime = codes "BadTime"
form_fault_name (forms.BadOp place) = of_operation place (codes "BadOp")
form_fault_name forms.NoMemory = codes "no memory"

abbrev pub blocks_fault_name : BlocksFault → List ℕ
blocks_fault_name (blocks.Car fault) = car_fault_name fault
blocks_fault_name blocks.NotTheRoot = codes "NotTheRoot"
blocks_fault_name blocks.Misnamed = codes "Misnamed"
blocks_fault_name blocks.CommitMissing = codes "CommitMissing"
blocks_fault_name (blocks.Commit fault) = commit_fault_name fault
blocks_fault_name blocks.OtherDid = codes "OtherDid"
blocks_fault_name blocks.OtherRev = codes "OtherRev"
blocks_fault_name (blocks.RecordMissing place) = of_operation place (codes "RecordMissing")
blocks_fault_name (blocks.RecordSize place) = of_operation place (codes "RecordSize")
blocks_fault_name (blocks.BadRecord place fault) = of_operation place (bad_record_name fault)
blocks_fault_name blocks.NoMemory = codes "no memory"

-- a block is named by the text of its CID
abbrev pub change_name : ChangeFault → List ℕ
change_name (changes.BlockMissing c) = codes "BlockMissing(" ++ (text c ++ codes ")")
change_name (changes.BadNode c) = codes "BadNode(" ++ (text c ++ codes ")")
change_name changes.TooDeep = codes "TooDeep"
change_name changes.NotTree = codes "NotTree"
change_name (changes.OtherValue place) = of_operation place (codes "OtherValue")
change_name changes.OtherRoot = codes "OtherRoot"
change_name changes.NoMemory = codes "no memory"

abbrev pub event_fault_name : EventFault → List ℕ
event_fault_name (events.Form fault) = form_fault_name fault
event_fault_name (events.DoubledPath place) = of_operation place (codes "DoubledPath")
event_fault_name events.OtherPrevious = codes "OtherPrevious"
event_fault_name (events.Blocks fault) = blocks_fault_name fault
event_fault_name (events.Change fault) = change_name fault
event_fault_name events.NoMemory = codes "no memory"

abbrev pub untold_fault_name : UntoldFault → List ℕ
untold_fault_name untold.NoBatch = codes "NoBatch"
untold_fault_name untold.BadSeq = codes "BadSeq"
untold_fault_name (untold.Form fault) = form_fault_name fault
untold_fault_name (untold.OtherValue place) = of_operation place (codes "OtherValue")
untold_fault_name (untold.RecordSize place) = of_operation place (codes "RecordSize")
untold_fault_name untold.NoMemory = codes "no memory"

-- ---- what standard error is told

-- what is wrong with the message of this number
abbrev pub of_message_number : ℕ → List ℕ → List ℕ
of_message_number n name = codes "message " ++ (decimal n ++ (codes ": " ++ name))

abbrev pub fault_text : {D : Type 0} → MessageFault D → List ℕ
fault_text (errors.Text fault) = texts.fault_text fault
fault_text (errors.Untold fault) = untold_fault_name fault
fault_text (errors.Message n fault) = of_message_number n (event_fault_name fault)

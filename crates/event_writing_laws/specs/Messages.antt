-- The message #commit of a repository's last batch (AT Protocol, event streams and sync 1.1).
use Rattle.std.specs.Prelude.{ℕ, List, ◌∷◌, ◌++◌, length, nat_le, Result, Ok}
use Rattle.std.specs.List.{flat_map}
use Rattle.spec.specs.Reading.{◌>>=◌, ensure}
use Rattle.spec.specs.Cid.{cid}
use Rattle.spec.specs.Blocks.{pairs, record_at}
use Rattle.spec.specs.Car.{car_of}
use Rattle.spec.specs.Stamps.{Stamp}
use Rattle.spec.specs.SignedCommits.{signed_bytes}
use Rattle.spec.specs.States.{State, last_stamp, records}
use Rattle.export_laws.specs.SignedCars.{signed_over}
use Rattle.batch_laws.specs.Previous.{values}
use Rattle.change_laws.specs.Told.{KeyChange, undone}
use Rattle.change_laws.specs.Verdict.{are_told}
use Rattle.change_laws.specs.Laws.{change_path}
use Rattle.event_times.specs.Limits.{most_blocks_bytes}
use Rattle.event_laws.specs.Events.{Event, event_bytes}
use Rattle.event_laws.specs.Reading.{BlocksSize}
use Rattle.event_writing_laws.specs.Telling.{Told, UntoldFault, OfForm, of_values, or_no_batch, sizes_test, told_ops, told_test}

-- the records that stand under the keys of operations, in their order: a key that went has none
abbrev pub records_left : List (List ℕ × List ℕ) → List KeyChange → List (List ℕ)
records_left m ops = flat_map (λ c. record_at m c.key) ops

-- the blocks of a message: the signed commit, the nodes of the tree after the batch that undoing its operations reads, and the
-- records that they leave
abbrev pub told_blocks : (List ℕ → List ℕ) → ℕ → List ℕ → List (List ℕ × List ℕ) → List KeyChange → List (List ℕ)
told_blocks digest bits commit m ops =
    commit ∷ (change_path digest bits ops (pairs digest m) ++ records_left m ops)

-- the block of the commit of a stamp over these records, with this signature; it names no commit before it
abbrev pub commit_over : (List ℕ → List ℕ) → ℕ → Stamp → List ℕ → List (List ℕ × List ℕ) → List ℕ
commit_over digest bits stamp sig m = signed_bytes (signed_over digest bits stamp sig m)

-- the CAR file of these blocks, each CID where it comes first; its root is the commit
abbrev pub file_of : (List ℕ → List ℕ) → ℕ → List ℕ → List (List ℕ × List ℕ) → List KeyChange → List ℕ
file_of digest bits commit m ops = car_of digest (cid digest commit) (told_blocks digest bits commit m ops)

-- what the message says
abbrev pub event_of : Told → Stamp → List ℕ → List ℕ → List KeyChange → List ℕ → Event
event_of told stamp commit file ops before = record {
  seq = told.seq;
  did = stamp.did;
  commit = commit;
  rev = stamp.rev;
  since = told.since;
  blocks = file;
  ops = ops;
  time = told.time;
  before = before;
}

-- each key has the value in these records that is told after its change, and no record is too long
unfoldable pub left_test : (List ℕ → List ℕ) → List (List ℕ × List ℕ) → List KeyChange → Result (Unit {0}) UntoldFault
left_test digest m ops = do
  had ← of_values (are_told 0 (values (undone ops) (pairs digest m)) ops)
  sizes_test m 0 ops

-- a file that isn't too long
unfoldable pub short_file : List ℕ → Result (List ℕ) UntoldFault
short_file file = do
  short ← ensure (nat_le (length file) most_blocks_bytes) (OfForm BlocksSize)
  Ok file

-- the message of a batch with this stamp that left these records, and before which the tree had this root
unfoldable pub stamped_event : (List ℕ → List ℕ) → ℕ → List (List ℕ × List ℕ) → Stamp → List ℕ → List KeyChange → Told
    → Result Event UntoldFault
stamped_event digest bits m stamp before cs told = do
  beside ← told_test told stamp.rev
  ops ← told_ops cs
  left ← left_test digest m ops
  file ← short_file (file_of digest bits (commit_over digest bits stamp told.sig m) m ops)
  Ok (event_of told stamp (cid digest (commit_over digest bits stamp told.sig m)) file ops before)

-- what the message of a repository's last batch says, which led there from a root by these changes, or why there is none
unfoldable pub batch_event : (List ℕ → List ℕ) → ℕ → State → List ℕ → List KeyChange → Told → Result Event UntoldFault
batch_event digest bits s before cs told = do
  stamp ← or_no_batch (last_stamp s)
  stamped_event digest bits (records s) stamp before cs told

-- and its bytes
unfoldable pub batch_message : (List ℕ → List ℕ) → ℕ → State → List ℕ → List KeyChange → Told → Result (List ℕ) UntoldFault
batch_message digest bits s before cs told = do
  e ← batch_event digest bits s before cs told
  Ok (event_bytes e)

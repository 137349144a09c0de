-- The message #sync of a repository's state (AT Protocol, event streams and sync 1.1), which a host sends where its batches can't
-- be told: whoever follows the repository then has its root and its revision, and fetches what it lacks.
use Rattle.std.specs.Prelude.{ℕ, ◌^◌, List, [], ◌∷◌, length, nat_le, nat_lt, Result, Ok}
use Rattle.spec.specs.Reading.{◌>>=◌, ensure}
use Rattle.spec.specs.Cid.{cid}
use Rattle.spec.specs.Car.{car_of}
use Rattle.spec.specs.Stamps.{Stamp}
use Rattle.spec.specs.States.{State, last_stamp, records}
use Rattle.event_times.specs.Times.{is_time}
use Rattle.event_laws.specs.Reading.{BadTime, BlocksSize}
use Rattle.event_laws.specs.Syncs.{SyncEvent, most_sync_bytes, sync_bytes}
use Rattle.event_writing_laws.specs.Telling.{UntoldFault, BadSeq, OfForm, or_no_batch}
use Rattle.event_writing_laws.specs.Messages.{commit_over}

-- what it tells beside the state: its number in the stream, when it is sent, and the signature of the commit
pub record SyncTold : Type 0 where
  pub seq : ℕ
  pub time : List ℕ
  pub sig : List ℕ

unfoldable pub sync_test : SyncTold → Result (Unit {0}) UntoldFault
sync_test told = do
  counted ← ensure (nat_lt told.seq (2 ^ 63)) BadSeq
  ensure (is_time told.time) (OfForm BadTime)

-- the CAR file of a commit alone, which is its root
abbrev pub commit_file : (List ℕ → List ℕ) → List ℕ → List ℕ
commit_file digest commit = car_of digest (cid digest commit) (commit ∷ [])

-- a file that isn't too long
unfoldable pub short_commit_file : List ℕ → Result (List ℕ) UntoldFault
short_commit_file file = do
  short ← ensure (nat_le (length file) most_sync_bytes) (OfForm BlocksSize)
  Ok file

-- what the message says of a commit with this stamp
abbrev pub sync_of : SyncTold → Stamp → List ℕ → SyncEvent
sync_of told stamp file = record {
  seq = told.seq;
  did = stamp.did;
  blocks = file;
  rev = stamp.rev;
  time = told.time;
}

-- of a repository whose last batch has this stamp and left these records
unfoldable pub stamped_sync : (List ℕ → List ℕ) → ℕ → List (List ℕ × List ℕ) → Stamp → SyncTold → Result SyncEvent UntoldFault
stamped_sync digest bits m stamp told = do
  beside ← sync_test told
  file ← short_commit_file (commit_file digest (commit_over digest bits stamp told.sig m))
  Ok (sync_of told stamp file)

-- what the message of a repository's state says, or why there is none
unfoldable pub state_sync : (List ℕ → List ℕ) → ℕ → State → SyncTold → Result SyncEvent UntoldFault
state_sync digest bits s told = do
  stamp ← or_no_batch (last_stamp s)
  stamped_sync digest bits (records s) stamp told

-- and its bytes
unfoldable pub sync_message : (List ℕ → List ℕ) → ℕ → State → SyncTold → Result (List ℕ) UntoldFault
sync_message digest bits s told = do
  sync ← state_sync digest bits s told
  Ok (sync_bytes sync)

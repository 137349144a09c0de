-- A repository by the list of its accepted writes and the stamps of their batches.
use Rattle.std.specs.Prelude.{◌≡◌, ℕ, ◌<◌, ◌≤◌, true, List, [], ◌∷◌, ◌++◌, length, Option, Result}
use Rattle.std.specs.Prelude.{Ok, Err}
use Rattle.spec.specs.Reading.{◌>>=◌}
use Rattle.spec.specs.Blocks.{repository_root}
use Rattle.spec.specs.Writes.{Write, WriteFault, leaves, batch_test, is_lawful_list}
use Rattle.spec.specs.Stamps.{Stamp, Stamped, StampFault, stamp_test, last, stamp_of, rev_of}
use Rattle.spec.specs.Stamps.{length_after, are_stamps}
use Rattle.spec.specs.Commits.{committed_blocks, commit_cid, committed_car}

-- its number in the host; how many writes it may have; the accepted writes; and the stamp of each
-- batch, with the length of the list of accepted writes after it
pub record State : Type 0 where
  pub me : ℕ
  pub limit : ℕ
  pub accepted : List Write
  pub stamps : List Stamped

-- before the first batch
abbrev pub fresh : ℕ → ℕ → State
fresh me limit = record { me = me; limit = limit; accepted = []; stamps = [] }

-- after a batch of writes under a stamp
abbrev pub after_batch : State → Stamp → List Write → State
after_batch s stamp batch = record {
  me = s.me;
  limit = s.limit;
  accepted = s.accepted ++ batch;
  stamps = s.stamps ++ (stamp, length (s.accepted ++ batch)) ∷ [];
}

-- ---- what a state determines

-- the records, each under its key
abbrev pub records : State → List (List ℕ × List ℕ)
records s = leaves s.accepted

-- the stamp of the last batch
abbrev pub last_stamp : State → Option Stamp
last_stamp s = stamp_of (last s.stamps)

-- the root of the tree
abbrev pub state_root : (List ℕ → List ℕ) → ℕ → State → List ℕ
state_root digest bits s = repository_root digest bits (records s)

-- the blocks: the commit of the last batch alone, the nodes of the tree and the records
abbrev pub state_blocks : (List ℕ → List ℕ) → ℕ → State → List (List ℕ)
state_blocks digest bits s = committed_blocks digest bits (last_stamp s) (records s)

-- the CID of the commit
abbrev pub state_commit : (List ℕ → List ℕ) → ℕ → State → Option (List ℕ)
state_commit digest bits s = commit_cid digest (last_stamp s) (state_root digest bits s)

-- the export
abbrev pub state_car : (List ℕ → List ℕ) → ℕ → State → List ℕ
state_car digest bits s = committed_car digest bits (last_stamp s) (records s)

-- ---- lawful states

-- Each write and each stamp passed its test when it was made, there are no more writes than the
-- limit allows, and the last batch ends with the last write (the bounds are a choice of this
-- project).
pub record IsLawful (s : State) : Type 0 where
  pub me_fits : s.me < 1024
  pub some_room : 0 < s.limit
  pub limit_fits : s.limit ≤ 1048576
  pub writes : is_lawful_list s.accepted ≡ true
  pub within_limit : length s.accepted ≤ s.limit
  pub stamps : are_stamps s.stamps ≡ true
  pub last_is_whole : length_after (last s.stamps) ≡ length s.accepted

-- ---- which batches are taken

-- why a batch isn't taken: it has no writes; its stamp; one of its writes
pub data BatchFault : Type 0 where
  EmptyBatch : BatchFault
  OfStamp : StampFault → BatchFault
  OfWrite : WriteFault → BatchFault

-- the stamp is refused at the place of the first write
abbrev pub at_first : Result (Unit {0}) StampFault → Result (Unit {0}) (ℕ × BatchFault)
at_first (Ok ok) = Ok ok
at_first (Err f) = Err (0, OfStamp f)

-- a write is refused at its own place
abbrev pub of_writes : Result (Unit {0}) (ℕ × WriteFault) → Result (Unit {0}) (ℕ × BatchFault)
of_writes (Ok ok) = Ok ok
of_writes (Err f) = Err (f.0, OfWrite f.1)

-- The first fault of a batch, with the place of the write at which it stands, from 0: no writes,
-- then the stamp, then write by write (this order is a choice of this project).
abbrev pub state_test : State → Stamp → List Write → Result (Unit {0}) (ℕ × BatchFault)
state_test s stamp [] = Err (0, EmptyBatch)
state_test s stamp (w ∷ ws) = do
  stamp_ok ← at_first (stamp_test (rev_of (last s.stamps)) stamp)
  of_writes (batch_test s.limit s.accepted (w ∷ ws))

-- What the message #sync of a state says.
use Rattle.std.specs.Prelude.{◌≡◌, ◌≤◌, ℕ, List, [], ◌∷◌, length, drop, Some, Ok}
use Rattle.spec.specs.Cid.{IsDigest, cid}
use Rattle.spec.specs.DagCbor.{Fields, read}
use Rattle.spec.specs.Stamps.{Stamp}
use Rattle.spec.specs.SignedCommits.{read_commit}
use Rattle.spec.specs.States.{State, IsLawful, last_stamp, records}
use Rattle.spec.specs.Laws.Cars.{section_of_block}
use Rattle.export_laws.specs.SignedCars.{signed_over}
use Rattle.event_laws.specs.Syncs.{SyncEvent, fields_of_sync, most_sync_bytes, sync_bytes, sync_header_bytes}
use Rattle.event_laws.specs.Verdict.{sections_of}
use Rattle.event_writing_laws.specs.Messages.{commit_over}
use Rattle.event_writing_laws.specs.Syncs.{SyncTold, state_sync}

-- Behind the header stands one map in DAG-CBOR, of these fields; the DID and the revision are those of the last batch; the file is
-- short, has the commit as its root, and that as its only block; and the commit is read as the state's, with the signature.
pub record SaysState (digest : List ℕ → List ℕ) (bits : ℕ) (s : State) (stamp : Stamp) (told : SyncTold) (e : SyncEvent)
    : Type 0 where
  pub fields : read (drop (length sync_header_bytes) (sync_bytes e)) ≡ Ok (Fields (fields_of_sync e))
  pub did : e.did ≡ stamp.did
  pub rev : e.rev ≡ stamp.rev
  pub short : length e.blocks ≤ most_sync_bytes
  pub sections : let commit = commit_over digest bits stamp told.sig (records s) in
      sections_of digest (cid digest commit) e.blocks ≡ Ok (section_of_block digest commit ∷ [])
  pub commit : read_commit (commit_over digest bits stamp told.sig (records s))
      ≡ Ok (signed_over digest bits stamp told.sig (records s))

-- so says each message of a lawful repository
abbrev pub SyncSaysState : Type 0
SyncSaysState = (digest : List ℕ → List ℕ) (bits : ℕ) → IsDigest digest → (s : State) → IsLawful s → (stamp : Stamp)
    → last_stamp s ≡ Some stamp → (told : SyncTold) (e : SyncEvent) → state_sync digest bits s told ≡ Ok e
    → SaysState digest bits s stamp told e

-- The message of a state in the steps in which it is written.
use Rattle.std.specs.Prelude.{ℕ, List, Result, Ok}
use Rattle.spec.specs.Reading.{◌>>=◌}
use Rattle.spec.specs.Stamps.{Stamp}
use Rattle.event_laws.specs.Syncs.{sync_bytes}
use Rattle.event_writing_laws.specs.Telling.{UntoldFault}
use Rattle.event_writing_laws.specs.Messages.{commit_over}
use Rattle.event_writing_laws.specs.Syncs as syncs
use Rattle.event_writing_laws.specs.Syncs.{commit_file, short_commit_file, sync_of, sync_test}
use Rattle.event_writing.specs.declared.sync_told.SyncTold.{SyncTold}

abbrev pub sync_told_of : SyncTold → syncs.SyncTold
sync_told_of t = record { seq = t.seq; time = t.time.now; sig = t.sig.now }

-- the bytes of the message with this commit
unfoldable pub sync_with : (List ℕ → List ℕ) → Stamp → List ℕ → syncs.SyncTold → Result (List ℕ) UntoldFault
sync_with digest stamp commit told = do
  file ← short_commit_file (commit_file digest commit)
  Ok (sync_bytes (sync_of told stamp file))

-- the bytes of the message over a batch with this stamp
unfoldable pub sync_stamped : (List ℕ → List ℕ) → ℕ → List (List ℕ × List ℕ) → Stamp → syncs.SyncTold
    → Result (List ℕ) UntoldFault
sync_stamped digest bits m stamp told = do
  beside ← sync_test told
  sync_with digest stamp (commit_over digest bits stamp told.sig m) told

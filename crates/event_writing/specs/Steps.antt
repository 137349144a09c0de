-- A message in the steps in which it is written, and what it is to its reader.
use Rattle.std.specs.Prelude.{◌≡◌, ℕ, List, Result, Ok}
use Rattle.spec.specs.Reading.{◌>>=◌}
use Rattle.spec.specs.Cid.{cid}
use Rattle.spec.specs.Tree.{Pair}
use Rattle.spec.specs.Blocks.{root}
use Rattle.spec.specs.Stamps.{Stamp}
use Rattle.spec.specs.States.{State, records}
use Rattle.change_laws.specs.Told.{KeyChange}
use Rattle.event_laws.specs.Events.{Event, event_bytes}
use Rattle.event_laws.specs.Verdict.{commit_verdict}
use Rattle.event_writing_laws.specs.Telling.{Told, UntoldFault, told_ops, told_test}
use Rattle.event_writing_laws.specs.Messages.{batch_event, commit_over, event_of, file_of, left_test, short_file}
use Rattle.event_writing_laws.specs.Laws.{IsBatchFrom, checked_batch}

-- the file of a message
unfoldable pub left_file : (List ℕ → List ℕ) → ℕ → List (List ℕ × List ℕ) → List ℕ → List KeyChange → Result (List ℕ) UntoldFault
left_file digest bits m commit ops = do
  left ← left_test digest m ops
  short_file (file_of digest bits commit m ops)

-- the bytes of the message with this commit
unfoldable pub message_with : (List ℕ → List ℕ) → ℕ → List (List ℕ × List ℕ) → Stamp → List ℕ → List ℕ → List KeyChange → Told
    → Result (List ℕ) UntoldFault
message_with digest bits m stamp commit before ops told = do
  file ← left_file digest bits m commit ops
  Ok (event_bytes (event_of told stamp (cid digest commit) file ops before))

-- the bytes of the message of a batch with this stamp
unfoldable pub stamped_message : (List ℕ → List ℕ) → ℕ → List (List ℕ × List ℕ) → Stamp → List ℕ → List KeyChange → Told
    → Result (List ℕ) UntoldFault
stamped_message digest bits m stamp before cs told = do
  beside ← told_test told stamp.rev
  ops ← told_ops cs
  message_with digest bits m stamp (commit_over digest bits stamp told.sig m) before ops told

-- whoever knows the root before takes a message, and reads it as it was written
abbrev pub IsTaken : (List ℕ → List ℕ) → ℕ → State → List ℕ → List KeyChange → Told → List ℕ → Type 0
IsTaken digest bits s before cs told message = (stamp : Stamp) (old : List Pair) → before ≡ root digest bits old
    → IsBatchFrom digest bits s stamp cs told old
    → (e : Event) → batch_event digest bits s before cs told ≡ Ok e
    → commit_verdict digest bits before message ≡ Ok (checked_batch digest bits (records s) stamp cs told e)

-- What the commands on messages write for an input, or why nothing (the forms of the texts are a choice of this project).
use Rattle.std.specs.Prelude.{ℕ, zero, suc, ◌+◌, ◌==◌, Bool, not, ◌&&◌, cond, List, [], ◌∷◌, ◌++◌, codes, decimal, length}
use Rattle.std.specs.Prelude.{unwrap_or}
use Rattle.std.specs.Prelude.{Option, Some, None, Result, Ok, Err}
use Rattle.std.specs.List.{flat_map}
use Rattle.std.specs.Str.{bytes_eq}
use Rattle.spec.specs.Reading.{◌>>=◌, ensure}
use Rattle.spec.specs.Cid.{text, cid_of_text}
use Rattle.spec.specs.CarReading.{Section, block_with}
use Rattle.spec.specs.SignedCommits.{Commit}
use Rattle.spec.specs.Stamps.{Stamp}
use Rattle.spec.specs.Writes.{Write}
use Rattle.spec.specs.States.{State, state_root}
use Rattle.change_laws.specs.Told.{KeyChange}
use Rattle.event_laws.specs.Ops.{action_of}
use Rattle.event_laws.specs.Reading.{RevOrder}
use Rattle.event_laws.specs.Verdict as verdict
use Rattle.event_writing_laws.specs.Telling as telling
use Rattle.event_writing_laws.specs.Messages.{batch_message}
use Rattle.event_writing_laws.specs.Syncs.{SyncTold, sync_message}
use Rattle.event_frames.specs.Frames.{cut}
use Rattle.record_forms.specs.Records.{json_or_hex}
use Rattle.record_forms.specs.declared.form.Form.{Form}
use Rattle.record_forms.specs.declared.form.Form.TheVariants as forms
use Rattle.repository_commands.specs.Commands.{stamp_of_words}
use Rattle.repository_commands.specs.Faults as texts
use Rattle.repository_commands.specs.Puts.{Given}
use Rattle.repository_commands.specs.Texts.{no_writes, or_bad_root, signing_check, state_of_given}
use Rattle.change_commands.specs.Stories.{Story, story_in}
use Rattle.change_commands.specs.Texts.{changes_of_batch}
use Rattle.event_commands.specs.Faults.{Fault, OfBatch, OfMessage, OfText}
use Rattle.event_commands.specs.declared.command.Subject.{Subject}
use Rattle.event_commands.specs.declared.command.Subject.TheVariants as subjects

abbrev pub of_text : {A : Type 0} → Result A texts.Fault → Result A Fault
of_text (Ok x) = Ok x
of_text (Err f) = Err (OfText f)

abbrev pub of_batch : {A : Type 0} → Result A telling.UntoldFault → Result A Fault
of_batch (Ok x) = Ok x
of_batch (Err f) = Err (OfBatch f)

abbrev pub of_message : {A : Type 0} → ℕ → Result A verdict.EventFault → Result A Fault
of_message n (Ok x) = Ok x
of_message n (Err f) = Err (OfMessage n f)

-- ---- `commit-event` and `sync-event`

-- what a message tells beside the batch or the state, as words
pub record Words : Type 0 where
  pub did : List ℕ
  pub rev : List ℕ
  pub since : Option (List ℕ)
  pub seq : ℕ
  pub time : List ℕ
  pub sig : List ℕ

-- the stamp of the words
abbrev pub own_stamp : Words → Stamp
own_stamp w = stamp_of_words w.did w.rev

-- the words that are judged before the input is read: the DID, the revision, and the signature, which they give
abbrev pub signature_of : Words → Result (List ℕ) Fault
signature_of w = of_text (signing_check (own_stamp w) w.sig)

abbrev pub with_signature : Words → List ℕ → telling.Told
with_signature w sig = record { seq = w.seq; time = w.time; since = w.since; sig = sig }

abbrev pub has_writes : List Write → Bool
has_writes ws = not (length ws == 0)

-- The records of an input are one batch of a new repository, and the writes behind them one on it. The last one has the stamp of
-- the words; records before a batch are put under the first revision that there is (a choice of this project).
abbrev pub first_rev : List ℕ
first_rev = codes "2222222222222"

abbrev pub rev_of_records : Words → List Write → List ℕ
rev_of_records w batch = cond (has_writes batch) first_rev w.rev

abbrev pub stamp_of_records : Words → List Write → Stamp
stamp_of_records w batch = stamp_of_words w.did (rev_of_records w batch)

-- so behind records the revision of a batch has to be another one
abbrev pub is_behind_records : Words → Story → Bool
is_behind_records w story = has_writes story.before.writes && has_writes story.batch.writes && bytes_eq w.rev first_rev

abbrev pub order_check : Words → Story → Result (Unit {0}) Fault
order_check w story = ensure (not (is_behind_records w story)) (OfBatch (telling.OfForm RevOrder))

-- the message for the writes of some lines on a repository, which are one batch under a stamp; where there are no writes, there is
-- none
abbrev pub batch_event_on : (List ℕ → List ℕ) → State → Stamp → Given → telling.Told → Result (List ℕ) Fault
batch_event_on digest s stamp batch told = do
  t ← of_text (state_of_given s stamp batch)
  some ← ensure (has_writes batch.writes) (OfBatch telling.NoBatch)
  of_batch (batch_message digest 2 t (state_root digest 2 s) (changes_of_batch digest s t batch.writes) told)

-- what is told of a state
abbrev pub beside_state : telling.Told → SyncTold
beside_state t = record { seq = t.seq; time = t.time; sig = t.sig }

-- the message for the repository that they leave
abbrev pub state_event_on : (List ℕ → List ℕ) → State → Stamp → Given → telling.Told → Result (List ℕ) Fault
state_event_on digest s stamp batch told = do
  t ← of_text (state_of_given s stamp batch)
  of_batch (sync_message digest 2 t (beside_state told))

abbrev pub event_on : (List ℕ → List ℕ) → Subject → State → Stamp → Given → telling.Told → Result (List ℕ) Fault
event_on digest subjects.Batch = batch_event_on digest
event_on digest subjects.State = state_event_on digest

-- for a story, whose batch comes behind its records
abbrev pub event_in_order : (List ℕ → List ℕ) → Subject → Words → List ℕ → Story → Result (List ℕ) Fault
event_in_order digest subject w sig story = do
  s ← of_text (state_of_given no_writes (stamp_of_records w story.batch.writes) story.before)
  event_on digest subject s (own_stamp w) story.batch (with_signature w sig)

abbrev pub event_of_story : (List ℕ → List ℕ) → Subject → Words → List ℕ → Story → Result (List ℕ) Fault
event_of_story digest subject w sig story = do
  ordered ← order_check w story
  event_in_order digest subject w sig story

unfoldable pub event_text : (List ℕ → List ℕ) → Subject → Form → Words → List ℕ → Result (List ℕ) Fault
event_text digest subject form w input = do
  sig ← signature_of w
  event_of_story digest subject w sig (story_in form input)

-- ---- `check-event`: what is told of a message that is true

-- a word and the space behind it
abbrev pub spaced : List ℕ → List ℕ
spaced word = word ++ (32 ∷ [])

-- whose repository it is, the revision, the root after it, and how many operations it has
abbrev pub summary_line : Commit → ℕ → List ℕ
summary_line c count =
    spaced c.did ++ (spaced c.rev ++ (spaced (text c.root) ++ (decimal count ++ (10 ∷ []))))

-- what an operation is called, and the space behind it
abbrev pub action_words : Option (List ℕ) → Option (List ℕ) → List ℕ
action_words before after = spaced (unwrap_or (action_of before after) [])

-- the record with this CID among some sections, as JSON, or in hexadecimal where it has none; nothing where there is no such record
abbrev pub word_of_block : Option (List ℕ) → List ℕ
word_of_block None = []
word_of_block (Some bytes) = json_or_hex bytes

-- a space and the record that an operation leaves, if it leaves one
abbrev pub record_words : List Section → Option (List ℕ) → List ℕ
record_words ss None = []
record_words ss (Some c) = 32 ∷ word_of_block (block_with c ss)

-- the line of an operation, as `prove-change --json` reads it behind the empty line
abbrev pub op_line : List Section → KeyChange → List ℕ
op_line ss c = action_words c.before c.after ++ (c.key ++ (record_words ss c.after ++ (10 ∷ [])))

-- all lines of a message: with JSON those of its operations too
abbrev pub message_lines : Form → verdict.Checked → List ℕ
message_lines forms.Hex c = summary_line c.commit (length c.event.ops)
message_lines forms.Json c =
    summary_line c.commit (length c.event.ops) ++ flat_map (op_line c.sections) c.event.ops

-- ---- messages one after the other

-- the lines so far with those of the message of this number, and the root after it, where it is true of the repository that had
-- this root
abbrev pub told_next : (List ℕ → List ℕ) → Form → List ℕ → ℕ → List ℕ → List ℕ
    → Result (List ℕ × List ℕ) Fault
told_next digest form said n root message = do
  c ← of_message n (verdict.commit_verdict digest 2 root message)
  Ok (said ++ message_lines form c, c.commit.root)

-- The lines so far with those of the messages of a stream, so many at most, the first of which has this number and is checked from
-- this root, and each other one from the root after the one before it.
unfoldable pub told_from : (List ℕ → List ℕ) → Form → List ℕ → ℕ → ℕ → List ℕ → List ℕ → Result (List ℕ) Fault
told_from digest form said most n root [] = Ok said
told_from digest form said zero n root (b ∷ bs) = Ok said
told_from digest form said (suc most) n root (b ∷ bs) = do
  told ← told_next digest form said n root (cut (b ∷ bs)).0
  told_from digest form told.0 most (n + 1) told.1 (cut (b ∷ bs)).1

-- of a stream, whose messages have a byte at least
abbrev pub lines_of_stream : (List ℕ → List ℕ) → Form → List ℕ → List ℕ → Result (List ℕ) Fault
lines_of_stream digest form root stream = told_from digest form [] (length stream) 1 root stream

-- the root of a word, which is judged before the input is read
abbrev pub root_of_word : List ℕ → Result (List ℕ) Fault
root_of_word word = of_text (or_bad_root (cid_of_text word))

unfoldable pub check_event_text : (List ℕ → List ℕ) → Form → List ℕ → List ℕ → Result (List ℕ) Fault
check_event_text digest form previous input = do
  root ← root_of_word previous
  lines_of_stream digest form root input

-- ---- a text that may not be there

-- nothing where there is none
abbrev pub text_or_nothing : Result (List ℕ) Fault → List ℕ
text_or_nothing (Ok t) = t
text_or_nothing (Err f) = []

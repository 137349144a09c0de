-- What the commands on a change write for an input, or why nothing (the forms of the texts are a choice of
-- this project).
use Rattle.std.specs.Prelude.{◌≡◌, ◌⊎◌, ℕ, false, List, [], ◌∷◌, ◌++◌, map, codes, slice_index}
use Rattle.std.specs.Prelude.{Result, Ok, Err}
use Rattle.std.specs.List.{flat_map}
use Rattle.std.specs.Str.{bytes_eq}
use Rattle.spec.specs.Reading.{◌>>=◌, ensure}
use Rattle.spec.specs.Cid.{CidFault, cid_of_text}
use Rattle.spec.specs.Blocks.{pairs, value_of}
use Rattle.spec.specs.Stamps.{Stamp}
use Rattle.spec.specs.Writes.{Write}
use Rattle.spec.specs.States.{State, records, state_root}
use Rattle.batch_laws.specs.Batch.{Change}
use Rattle.batch_laws.specs.Collecting.{collected}
use Rattle.change_laws.specs.Told.{KeyChange}
use Rattle.change_laws.specs.Given as laws
use Rattle.change_laws.specs.Laws.{change_path}
use Rattle.step_laws.specs.StepLaws.{step_path}
use Rattle.console.specs.Lines.{lines}
use Rattle.console.specs.Values.{value_words}
use Rattle.repository_commands.specs.Faults.{Fault, Line, OfAfter, OfBefore, OfChange, OtherAfter, OtherBefore, OtherValue}
use Rattle.repository_commands.specs.Refusals.{IsRefusedLine, is_refusal}
use Rattle.repository_commands.specs.Shards.{WasFull}
use Rattle.repository_commands.specs.Puts.{Given}
use Rattle.record_forms.specs.declared.form.Form.{Form}
use Rattle.change_commands.specs.Stories.{Story, story_in}
use Rattle.repository_commands.specs.Texts.{hex_line, no_writes, root_line, state_of_given}
use Rattle.change_commands.specs.Told.{Told, told_in}
use Rattle.change_commands.specs.Directions.{verdict_on, IsAnswer}
use Rattle.change_commands.specs.declared.direction.Direction.{Direction}
use Rattle.change_commands.specs.declared.direction.Direction.TheVariants as directions
use Rattle.change_proofs.specs.declared.change_fault.ChangeFault.{ChangeFault}
use Rattle.change_proofs.specs.declared.change_fault.ChangeFault.TheVariants as change_faults
use Rattle.repository_commands.specs.declared.fault.TextFault.{TextFault}
use Rattle.repository_commands.specs.declared.fault.TextFault.TheVariants as errors
use Rattle.repository_commands.specs.declared.fault.LineFault.TheVariants as lines_at

-- ---- `prove-change`

-- the stamp of the records before, and that of the batch
abbrev pub first_stamp : Stamp
first_stamp = record { did = codes "did:web:localhost"; rev = codes "2222222222222" }

abbrev pub second_stamp : Stamp
second_stamp = record { did = codes "did:web:localhost"; rev = codes "2222222222223" }

-- a key with what it has in one repository and in another
abbrev pub change_between : (List ℕ → List ℕ) → State → State → Change → KeyChange
change_between digest s t c = record {
  key = c.0;
  before = value_of c.0 (pairs digest (records s));
  after = value_of c.0 (pairs digest (records t));
}

-- the changes of a batch that led from one repository to another: of each key of its writes, in the order of the keys
abbrev pub changes_of_batch : (List ℕ → List ℕ) → State → State → List Write → List KeyChange
changes_of_batch digest s t ws = map (change_between digest s t) (collected ws)

abbrev pub change_line : KeyChange → List ℕ
change_line c = codes "change " ++ c.key ++ value_words c.before ++ value_words c.after ++ (10 ∷ [])

-- both roots, the changes, and the nodes
abbrev pub text_of_parts : List ℕ → List ℕ → List KeyChange → List (List ℕ) → List ℕ
text_of_parts before after cs nodes =
    root_line before ++ root_line after ++ flat_map change_line cs ++ flat_map hex_line nodes

-- the nodes that show changes which led from one repository to another: those of the tree before that doing them reads, or
-- those of the tree after that undoing them reads
abbrev pub nodes_shown : (List ℕ → List ℕ) → Direction → State → State → List KeyChange → List (List ℕ)
nodes_shown digest directions.Forward s t cs = step_path digest 2 cs (pairs digest (records s))
nodes_shown digest directions.Inversion s t cs = change_path digest 2 cs (pairs digest (records t))

-- the same where those of the tree before are at hand
abbrev pub nodes_by : (List ℕ → List ℕ) → Direction → List (List ℕ) → State → List KeyChange → List (List ℕ)
nodes_by digest directions.Forward before t cs = before
nodes_by digest directions.Inversion before t cs = change_path digest 2 cs (pairs digest (records t))

-- of changes that led from one repository to another
abbrev pub text_to : (List ℕ → List ℕ) → Direction → State → State → List KeyChange → List ℕ
text_to digest direction s t cs =
    text_of_parts (state_root digest 2 s) (state_root digest 2 t) cs (nodes_shown digest direction s t cs)

-- of a batch that led from one repository to another
abbrev pub text_of_batch : (List ℕ → List ℕ) → Direction → State → State → List Write → List ℕ
text_of_batch digest direction s t ws = text_to digest direction s t (changes_of_batch digest s t ws)

-- the text for the writes of some lines on a repository
abbrev pub text_on : (List ℕ → List ℕ) → Direction → State → Given → Result (List ℕ) Fault
text_on digest direction s batch = do
  t ← state_of_given s second_stamp batch
  Ok (text_of_batch digest direction s t batch.writes)

-- the puts are one batch of a new repository, and the writes one on it
abbrev pub text_of_story : (List ℕ → List ℕ) → Direction → Story → Result (List ℕ) Fault
text_of_story digest direction story = do
  s ← state_of_given no_writes first_stamp story.before
  text_on digest direction s story.batch

abbrev pub prove_change_text : (List ℕ → List ℕ) → Direction → Form → List ℕ → Result (List ℕ) Fault
prove_change_text digest direction form input = text_of_story digest direction (story_in form input)

-- where a line is refused, it is so in the one batch or in the other
abbrev pub IsRefusedStory : {D A : Type 0} → (List ℕ → List ℕ) → Story → TextFault D A → Type 0
IsRefusedStory digest story e =
    IsRefusedLine digest no_writes first_stamp story.before (WasFull digest) e
    ⊎ ((s : State) × (state_of_given no_writes first_stamp story.before ≡ Ok s)
    × IsRefusedLine digest s second_stamp story.batch (WasFull digest) e)

abbrev pub IsUnproved : {D A : Type 0} → (List ℕ → List ℕ) → Form → List ℕ → TextFault D A
    → Type 0
IsUnproved digest form input e = IsRefusedStory digest (story_in form input) e

-- ---- `verify-change`

-- the roots of two words, or what is wrong with the first faulty one
abbrev pub or_bad_before : Result (List ℕ) CidFault → Result (List ℕ) Fault
or_bad_before (Ok c) = Ok c
or_bad_before (Err f) = Err (OfBefore f)

abbrev pub or_bad_after : Result (List ℕ) CidFault → Result (List ℕ) Fault
or_bad_after (Ok c) = Ok c
or_bad_after (Err f) = Err (OfAfter f)

abbrev pub roots_of : List ℕ → List ℕ → Result (List ℕ × List ℕ) Fault
roots_of before after = do
  b ← or_bad_before (cid_of_text before)
  a ← or_bad_after (cid_of_text after)
  Ok (b, a)

-- what is told has these roots
abbrev pub roots_check : List ℕ × List ℕ → Told → Result (Unit {0}) Fault
roots_check roots t = do
  before_ok ← ensure (bytes_eq t.before roots.0) OtherBefore
  ensure (bytes_eq t.after roots.1) OtherAfter

-- what a fault of the verifier is called; a change that isn't so is told by its line
abbrev pub unshown_as : {D A : Type 0} → List ℕ → ChangeFault → TextFault D A
unshown_as numbers (change_faults.OtherValue place) =
    errors.Line (slice_index numbers place) lines_at.OtherValue
unshown_as numbers change_faults.NoMemory = errors.NoMemory
unshown_as numbers fault = errors.Change fault

-- a change that isn't so is told by its line
abbrev pub of_change : List ℕ → laws.ChangeFault → Fault
of_change numbers (laws.OtherValue place) = Line (slice_index numbers place) OtherValue
of_change numbers fault = OfChange fault

abbrev pub shown_line : List ℕ
shown_line = codes "shown" ++ (10 ∷ [])

abbrev pub answer_of_verdict : List ℕ → Result (Unit {0}) laws.ChangeFault → Result (List ℕ) Fault
answer_of_verdict numbers (Ok ok) = Ok shown_line
answer_of_verdict numbers (Err f) = Err (of_change numbers f)

abbrev pub answer_of_told : (List ℕ → List ℕ) → Direction → Told → Result (List ℕ) Fault
answer_of_told digest direction t =
    answer_of_verdict t.numbers (verdict_on digest direction t.before t.after t.blocks t.changes)

-- the words are judged before the input is read, its lines before its roots, and these before the changes
abbrev pub verify_change_text : (List ℕ → List ℕ) → Direction → List ℕ → List ℕ → List ℕ → Result (List ℕ) Fault
verify_change_text digest direction before after input = do
  roots ← roots_of before after
  t ← told_in (lines input)
  same ← roots_check roots t
  answer_of_told digest direction t

-- a fault of the verifier answers for what is told
abbrev pub IsChangeFault : (List ℕ → List ℕ) → Direction → Told → ChangeFault → Type 0
IsChangeFault digest direction t change_faults.NoMemory = ⊥
IsChangeFault digest direction t f =
    IsAnswer digest direction t.before t.after t.blocks t.changes (Err f)

-- what is told isn't shown, and no line is refused
abbrev pub IsUnshownBy : {D A : Type 0} → (List ℕ → List ℕ) → Direction → Result Told Fault → TextFault D A
    → Type 0
IsUnshownBy digest direction (Ok t) (errors.Change f) = IsChangeFault digest direction t f
IsUnshownBy digest direction told e = is_refusal e ≡ false

abbrev pub IsUnshown : {D A : Type 0} → (List ℕ → List ℕ) → Direction → List ℕ → TextFault D A → Type 0
IsUnshown digest direction input e = IsUnshownBy digest direction (told_in (lines input)) e

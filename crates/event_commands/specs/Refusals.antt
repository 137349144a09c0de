-- That a line which `commit-event` or `sync-event` refuses is refused for a reason, as of `prove-change`, and that `check-event`
-- refuses none.
use Rattle.std.specs.Prelude.{◌≡◌, ◌⊎◌, ⊤, ℕ, List, Bool, true, false, Ok}
use Rattle.spec.specs.Stamps.{Stamp}
use Rattle.spec.specs.States.{State}
use Rattle.record_forms.specs.declared.form.Form.{Form}
use Rattle.repository_commands.specs.Puts.{Given}
use Rattle.repository_commands.specs.Refusals.{IsRefusedLine}
use Rattle.repository_commands.specs.Shards.{WasFull}
use Rattle.repository_commands.specs.Texts.{no_writes, state_of_given}
use Rattle.repository_commands.specs.declared.fault.TextFault.{TextFault}
use Rattle.repository_commands.specs.declared.fault.TextFault.TheVariants as of_text
use Rattle.change_commands.specs.Stories.{Story, story_in}
use Rattle.event_commands.specs.Texts.{Words, own_stamp, stamp_of_records}
use Rattle.event_commands.specs.declared.fault.MessageFault.{MessageFault}
use Rattle.event_commands.specs.declared.fault.MessageFault.TheVariants as errors

-- where a fault is that of a line which is refused, it is refused at that line of these
abbrev pub IsRefusedBy : {D : Type 0} → (List ℕ → List ℕ) → State → Stamp → Given → Type 0 → MessageFault D → Type 0
IsRefusedBy digest s stamp given when_full (errors.Text f) = IsRefusedLine digest s stamp given when_full f
IsRefusedBy digest s stamp given when_full (errors.Untold f) = ⊤
IsRefusedBy digest s stamp given when_full (errors.Message n f) = ⊤

-- in the one batch of a story or in the other
abbrev pub IsRefusedStory : {D : Type 0} → (List ℕ → List ℕ) → Words → Story → MessageFault D → Type 0
IsRefusedStory digest w story e =
    IsRefusedBy digest no_writes (stamp_of_records w story.batch.writes) story.before (WasFull digest) e
    ⊎ ((s : State) × (state_of_given no_writes (stamp_of_records w story.batch.writes) story.before ≡ Ok s)
    × IsRefusedBy digest s (own_stamp w) story.batch (WasFull digest) e)

-- of the lines of an input
abbrev pub IsUntold : {D : Type 0} → (List ℕ → List ℕ) → Form → Words → List ℕ → MessageFault D → Type 0
IsUntold digest form w input e = IsRefusedStory digest w (story_in form input) e

-- ---- no line is at fault

-- but a word, memory, or a device
abbrev pub is_of_no_line : {D A : Type 0} → TextFault D A → Bool
is_of_no_line of_text.BadDid = true
is_of_no_line of_text.BadRev = true
is_of_no_line of_text.BadSig = true
is_of_no_line (of_text.Root f) = true
is_of_no_line of_text.NoMemory = true
is_of_no_line of_text.ReadFailed = true
is_of_no_line fault = false

-- or the batch as a whole, or a message
abbrev pub names_no_line : {D : Type 0} → MessageFault D → Bool
names_no_line (errors.Text f) = is_of_no_line f
names_no_line (errors.Untold f) = true
names_no_line (errors.Message n f) = true

abbrev pub IsOfNoLine : {D : Type 0} → MessageFault D → Type 0
IsOfNoLine e = names_no_line e ≡ true

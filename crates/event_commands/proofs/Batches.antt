-- The message of a batch, from what came of the two batches.
use Rattle.std.proofs.Common.{◌≡◌, ◌∙◌, ℕ, true, false, List, [], ◌∷◌, Some, None, refl, sym, ap, subst}
use Rattle.std.specs.Prelude.{Option, option_map, Result, Ok, Err}
use Rattle.spec.specs.Reading.{◌>>=◌, ensure, Fails}
use Rattle.spec.specs.Stamps.{Stamp}
use Rattle.spec.specs.States.{State, state_root}
use Rattle.change_laws.specs.Told.{KeyChange}
use Rattle.event_writing_laws.specs.Telling as telling
use Rattle.event_writing_laws.specs.Messages.{batch_message}
use Rattle.event_writing_laws.specs.Syncs.{SyncTold, sync_message}
use Rattle.change_commands.specs.Stories.{Story}
use Rattle.change_commands.specs.Texts.{changes_of_batch}
use Rattle.repository_commands.specs.Faults as texts
use Rattle.repository_commands.specs.Puts.{Given}
use Rattle.repository_commands.specs.Texts.{no_writes, state_of_given}
use Rattle.repository_commands.proofs.Making.{fails_then, gives_then}
use Rattle.event_commands.specs.Faults.{Fault, OfBatch, OfText}
use Rattle.event_commands.specs.Texts.{Words, batch_event_on, beside_state, event_in_order, event_of_story, event_on, has_writes, of_batch, order_check, own_stamp, stamp_of_records, state_event_on, with_signature}
use Rattle.event_commands.specs.declared.command.Subject.{Subject}
use Rattle.event_commands.proofs.Making.{text_fails, text_gives}

module _ (digest : List ℕ → List ℕ) (s : State) (stamp : Stamp) (batch : Given) (told : telling.Told) where
  abbrev after : State → Result (List ℕ) Fault
  after t = ensure (has_writes batch.writes) (OfBatch telling.NoBatch)
      >>= λ some. of_batch (batch_message digest 2 t (state_root digest 2 s) (changes_of_batch digest s t batch.writes) told)

  -- a line is at fault
  pub batch_fails : (o : Option texts.Fault) → Fails o (state_of_given s stamp batch) → Fails (option_map OfText o) (batch_event_on digest s stamp batch told)
  batch_fails o e = text_fails o (state_of_given s stamp batch) after e

  abbrev state_after : State → Result (List ℕ) Fault
  state_after t = of_batch (sync_message digest 2 t (beside_state told))

  pub state_fails : (o : Option texts.Fault) → Fails o (state_of_given s stamp batch) → Fails (option_map OfText o) (state_event_on digest s stamp batch told)
  state_fails o e = text_fails o (state_of_given s stamp batch) state_after e

  module _ (t : State) (e : state_of_given s stamp batch ≡ Ok t) where
    -- there are no writes
    pub no_batch : has_writes batch.writes ≡ false → batch_event_on digest s stamp batch told ≡ Err (OfBatch telling.NoBatch)
    no_batch none =
        text_gives (state_of_given s stamp batch) t after e
        ∙ ap (λ b. ensure b (OfBatch telling.NoBatch) >>= λ some. of_batch (batch_message digest 2 t (state_root digest 2 s) (changes_of_batch digest s t batch.writes) told)) none

    -- the message is that of the changes that were seen ahead
    pub batch_told : has_writes batch.writes ≡ true → (root : List ℕ) (cs : List KeyChange) → root ≡ state_root digest 2 s → cs ≡ changes_of_batch digest s t batch.writes
        → batch_event_on digest s stamp batch told ≡ of_batch (batch_message digest 2 t root cs told)
    batch_told some root cs er ec =
        text_gives (state_of_given s stamp batch) t after e
        ∙ ap (λ b. ensure b (OfBatch telling.NoBatch) >>= λ some. of_batch (batch_message digest 2 t (state_root digest 2 s) (changes_of_batch digest s t batch.writes) told)) some
        ∙ ap (λ r. of_batch (batch_message digest 2 t r (changes_of_batch digest s t batch.writes) told)) (sym er)
        ∙ ap (λ ds. of_batch (batch_message digest 2 t root ds told)) (sym ec)

    -- that of a state
    pub state_told : (beside : SyncTold) → beside ≡ beside_state told → state_event_on digest s stamp batch told ≡ of_batch (sync_message digest 2 t beside)
    state_told beside eb =
        text_gives (state_of_given s stamp batch) t state_after e ∙ ap (λ b. of_batch (sync_message digest 2 t b)) (sym eb)

module _ (digest : List ℕ → List ℕ) (subject : Subject) (w : Words) (sig : List ℕ) (story : Story) where
  abbrev on : State → Result (List ℕ) Fault
  on s = event_on digest subject s (own_stamp w) story.batch (with_signature w sig)

  pub story_fails : (stamp : Stamp) → stamp ≡ stamp_of_records w story.batch.writes → (o : Option texts.Fault)
      → Fails o (state_of_given no_writes stamp story.before) → Fails (option_map OfText o) (event_in_order digest subject w sig story)
  story_fails stamp es o e =
      text_fails o (state_of_given no_writes (stamp_of_records w story.batch.writes) story.before) on
      (subst (λ x. Fails o (state_of_given no_writes x story.before)) es e)

  pub story_told : (stamp : Stamp) → stamp ≡ stamp_of_records w story.batch.writes → (s : State) → state_of_given no_writes stamp story.before ≡ Ok s
      → event_in_order digest subject w sig story ≡ on s
  story_told stamp es s e =
      text_gives (state_of_given no_writes (stamp_of_records w story.batch.writes) story.before) s on
      (subst (λ x. state_of_given no_writes x story.before ≡ Ok s) es e)

  -- behind the test of the revision
  pub unordered : (o : Option Fault) → Fails o (order_check w story) → Fails o (event_of_story digest subject w sig story)
  unordered o e = fails_then o (order_check w story) (λ x. event_in_order digest subject w sig story) e

  pub ordered : (x : Unit {0}) → order_check w story ≡ Ok x → event_of_story digest subject w sig story ≡ event_in_order digest subject w sig story
  ordered x e = gives_then (order_check w story) x (λ y. event_in_order digest subject w sig story) e

-- ---- a message, or why there is none

pub batch_has : (o : Option telling.UntoldFault) (read : Result (List ℕ) telling.UntoldFault) → Fails o read → Fails (option_map OfBatch o) (of_batch read)
batch_has None read e = tt
batch_has (Some f) read e = ap of_batch e

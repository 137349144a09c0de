-- The text of a change, from what came of its two batches.
use Rattle.std.proofs.Common.{◌≡◌, ◌∙◌, ℕ, List, refl, sym, ap, subst, inl, inr}
use Rattle.std.specs.Prelude.{Option, Result, Ok, Err, IfErr, IsErrAnd}
use Rattle.spec.specs.Reading.{Fails, Gives}
use Rattle.spec.specs.Stamps.{Stamp}
use Rattle.spec.specs.Blocks.{pairs, root as root_of}
use Rattle.spec.specs.States.{State, records, state_root}
use Rattle.spec.specs.Writes.{Write}
use Rattle.batch_laws.specs.Batch.{changed}
use Rattle.batch_laws.specs.Collecting.{collected, with_cids}
use Rattle.change_laws.specs.Told.{KeyChange}
use Rattle.step_laws.specs.StepLaws.{step_path}
use Rattle.change_proofs.specs.StepProvings.{IsStepOf}
use Rattle.change_commands.specs.declared.direction.Direction.{Direction}
use Rattle.change_commands.specs.declared.direction.Direction.TheVariants as directions
use Rattle.change_commands.specs.Texts.{changes_of_batch, first_stamp, nodes_by, nodes_shown, second_stamp, text_of_batch, text_of_parts, text_of_story, text_on, IsRefusedStory}
use Rattle.repository_commands.specs.Faults.{Fault, text_fault_of}
use Rattle.repository_commands.specs.Puts.{Given}
use Rattle.repository_commands.specs.Refusals.{IsRefusedLine}
use Rattle.repository_commands.specs.Shards.{WasFull}
use Rattle.change_commands.specs.Stories.{Story}
use Rattle.repository_commands.specs.Texts.{no_writes, state_of_given}
use Rattle.repository_commands.specs.declared.fault.TextFault.{TextFault}
use Rattle.change_commands.proofs.ChangedKeys.{ahead-told}
use Rattle.repository_commands.proofs.Making.{fails_then, gives_then, passed}

-- a fault that is passed on
pub fails-on : {X D A : Type 0} (view : X → List ℕ) (text : Result (List ℕ) Fault) (r : Result X (TextFault D A)) (f : TextFault D A)
    → IsErrAnd r (λ e. e ≡ f) → Fails (text_fault_of f) text → Gives view text_fault_of r text
fails-on view text r f is fails = passed (λ q. Gives view text_fault_of q text) r f is fails

by-shown : (digest : List ℕ → List ℕ) (d : Direction) (s t : State) (cs : List KeyChange)
    → nodes_by digest d (step_path digest 2 cs (pairs digest (records s))) t cs ≡ nodes_shown digest d s t cs
by-shown digest directions.Forward s t cs = refl
by-shown digest directions.Inversion s t cs = refl

module _ (digest : List ℕ → List ℕ) (direction : Direction) where
  -- ---- the batch

  -- what was seen ahead of it is what is written of it
  pub ahead-text : (s t : State) (ws : List Write)
      → pairs digest (records t) ≡ changed (with_cids digest (collected ws)) (pairs digest (records s))
      → (root after : List ℕ) (told : List KeyChange) (nodes : List (List ℕ)) → root ≡ state_root digest 2 s
      → IsStepOf digest 2 (with_cids digest (collected ws)) (pairs digest (records s)) after told nodes
      → text_of_parts root after told (nodes_by digest direction nodes t told) ≡ text_of_batch digest direction s t ws
  ahead-text s t ws is root after told nodes er step =
      let before = state_root digest 2 s in
      let new = state_root digest 2 t in
      let cs = changes_of_batch digest s t ws in
      let ea : after ≡ new = step.after_is ∙ ap (root_of digest 2) (sym is) in
      ap (λ r. text_of_parts r after told (nodes_by digest direction nodes t told)) er
      ∙ ap (λ r. text_of_parts before r told (nodes_by digest direction nodes t told)) ea
      ∙ ap (λ ns. text_of_parts before new told (nodes_by digest direction ns t told)) step.nodes_are
      ∙ ap (λ ds. text_of_parts before new ds (nodes_by digest direction (step_path digest 2 ds (pairs digest (records s))) t ds))
      (ahead-told digest s t ws is after told nodes step)
      ∙ ap (text_of_parts before new cs) (by-shown digest direction s t cs)

  module _ (s : State) (batch : Given) (stamp : Stamp) (es : stamp ≡ second_stamp) where
    pub batch-text : (t : State) → state_of_given s stamp batch ≡ Ok t → text_on digest direction s batch ≡ Ok (text_of_batch digest direction s t batch.writes)
    batch-text t e =
        gives_then (state_of_given s second_stamp batch) t (λ u. Ok (text_of_batch digest direction s u batch.writes)) (subst (λ x. state_of_given s x batch ≡ Ok t) es e)

    pub batch-fails : (o : Option Fault) → Fails o (state_of_given s stamp batch) → Fails o (text_on digest direction s batch)
    batch-fails o e =
        fails_then o (state_of_given s second_stamp batch) (λ u. Ok (text_of_batch digest direction s u batch.writes)) (subst (λ x. Fails o (state_of_given s x batch)) es e)

  -- ---- the records before it

  module _ (story : Story) (stamp : Stamp) (es : stamp ≡ first_stamp) where
    pub story-text : (s : State) → state_of_given no_writes stamp story.before ≡ Ok s → text_of_story digest direction story ≡ text_on digest direction s story.batch
    story-text s e =
        gives_then (state_of_given no_writes first_stamp story.before) s (λ u. text_on digest direction u story.batch) (subst (λ x. state_of_given no_writes x story.before ≡ Ok s) es e)

    pub story-fails : (o : Option Fault) → Fails o (state_of_given no_writes stamp story.before) → Fails o (text_of_story digest direction story)
    story-fails o e =
        fails_then o (state_of_given no_writes first_stamp story.before) (λ u. text_on digest direction u story.batch) (subst (λ x. Fails o (state_of_given no_writes x story.before)) es e)

-- ---- a line is refused in the one or the other

module _ (digest : List ℕ → List ℕ) (story : Story) (stamp : Stamp) (es : stamp ≡ first_stamp) where
  pub refused-before : {X D A : Type 0} (r : Result X (TextFault D A)) → IfErr r (IsRefusedLine digest no_writes stamp story.before (WasFull digest)) → IfErr r (IsRefusedStory digest story)
  refused-before (Ok x) is = tt
  refused-before (Err e) is = inl (subst (λ x. IsRefusedLine digest no_writes x story.before (WasFull digest) e) es is)

  pub refused-after : {X D A : Type 0} (s : State) (r : Result X (TextFault D A)) → state_of_given no_writes stamp story.before ≡ Ok s
      → IfErr r (IsRefusedLine digest s second_stamp story.batch (WasFull digest)) → IfErr r (IsRefusedStory digest story)
  refused-after s (Ok x) e is = tt
  refused-after s (Err f) e is = inr (s, subst (λ x. state_of_given no_writes x story.before ≡ Ok s) es e, is)

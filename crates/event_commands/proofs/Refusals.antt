-- A line is refused for a reason, from what was answered of its batch.
use Rattle.std.proofs.Common.{◌≡◌, ℕ, List, true, inl, inr, sym, subst}
use Rattle.std.specs.Prelude.{Option, Result, Ok, Err, IfErr, IfSome, IsErrAnd}
use Rattle.spec.specs.Stamps.{Stamp}
use Rattle.spec.specs.States.{State}
use Rattle.console.proofs.Known.{always_known, for_known}
use Rattle.console.specs.declared.reading.ReadFault.{ReadFault}
use Rattle.console.specs.declared.reading.ReadFault.TheVariants as reads
use Rattle.record_forms.specs.declared.form.Form.{Form}
use Rattle.repository_commands.specs.Puts.{Given}
use Rattle.repository_commands.specs.Refusals.{IsRefusedLine}
use Rattle.repository_commands.specs.Shards.{WasFull}
use Rattle.repository_commands.specs.Texts.{no_writes, state_of_given}
use Rattle.repository_commands.specs.declared.fault.TextFault.{TextFault}
use Rattle.repository_commands.specs.declared.fault.TextFault.TheVariants as of_text
use Rattle.repository_commands.proofs.Making.{passed}
use Rattle.repository_commands.proofs.Repositories.{further_all}
use Rattle.change_commands.specs.Stories.{Story, story_in}
use Rattle.event_commands.specs.Faults.{of_read}
use Rattle.event_commands.specs.Refusals.{is_of_no_line, IsOfNoLine, IsRefusedBy, IsRefusedStory, IsUntold}
use Rattle.event_commands.specs.Texts.{Words, own_stamp, stamp_of_records}
use Rattle.event_commands.specs.declared.fault.MessageFault.{MessageFault}
use Rattle.event_commands.specs.declared.fault.MessageFault.TheVariants as errors

-- ---- no line is at fault

pub read_of_no_line : {D : Type 0} (f : ReadFault) (e : MessageFault D) → e ≡ of_read f → IsOfNoLine e
read_of_no_line reads.NoMemory e is = subst (λ h. IsOfNoLine h) (sym is) cc
read_of_no_line reads.Failed e is = subst (λ h. IsOfNoLine h) (sym is) cc

module _ (digest : List ℕ → List ℕ) (s : State) (stamp : Stamp) (given : Given) where
  line_of_none : {D A : Type 0} (P : Type 0) (f : TextFault D A) → is_of_no_line f ≡ true → IsRefusedLine digest s stamp given P f
  line_of_none P of_text.BadDid is = tt
  line_of_none P of_text.BadRev is = tt
  line_of_none P of_text.BadSig is = tt
  line_of_none P of_text.NothingToSign is = tt
  line_of_none P (of_text.Root f) is = tt
  line_of_none P (of_text.BadBefore f) is = absurd cc
  line_of_none P (of_text.BadAfter f) is = absurd cc
  line_of_none P (of_text.Proof f) is = tt
  line_of_none P of_text.OtherBefore is = absurd cc
  line_of_none P of_text.OtherAfter is = absurd cc
  line_of_none P (of_text.Change f) is = absurd cc
  line_of_none P (of_text.Line n f) is = absurd cc
  line_of_none P of_text.NoMemory is = tt
  line_of_none P of_text.ReadFailed is = tt

  pub lineless : {D : Type 0} (P : Type 0) (e : MessageFault D) → IsOfNoLine e → IsRefusedBy digest s stamp given P e
  lineless P (errors.Text f) is = line_of_none P f is
  lineless P (errors.Untold f) is = tt
  lineless P (errors.Message n f) is = tt

  pub all_lineless : {X D : Type 0} (P : Type 0) (r : Result X (MessageFault D)) → IfErr r (λ e. IsOfNoLine e) → IfErr r (IsRefusedBy digest s stamp given P)
  all_lineless P (Ok x) is = tt
  all_lineless P (Err e) is = lineless P e is

  -- ---- what follows from a store that has answered that it's full

  pub line_further : {D A P Q : Type 0} (follows : P → Q) (f : TextFault D A) → IsRefusedLine digest s stamp given P f → IsRefusedLine digest s stamp given Q f
  line_further {D} {A} {P} {Q} follows f is = let r : Result (Unit {0}) (TextFault D A) = Err f in further_all digest s stamp given follows r is

  by_further : {D P Q : Type 0} (follows : P → Q) (e : MessageFault D) → IsRefusedBy digest s stamp given P e → IsRefusedBy digest s stamp given Q e
  by_further follows (errors.Text f) is = line_further follows f is
  by_further follows (errors.Untold f) is = tt
  by_further follows (errors.Message n f) is = tt

  pub all_further : {X D P Q : Type 0} (follows : P → Q) (r : Result X (MessageFault D)) → IfErr r (IsRefusedBy digest s stamp given P)
      → IfErr r (IsRefusedBy digest s stamp given Q)
  all_further follows (Ok x) is = tt
  all_further follows (Err e) is = by_further follows e is

-- ---- in the one batch or in the other

module _ (digest : List ℕ → List ℕ) (w : Words) (story : Story) where
  -- a line of the records before
  pub refused_before : {D P : Type 0} (stamp : Stamp) → stamp ≡ stamp_of_records w story.batch.writes → (follows : P → WasFull digest) (e : MessageFault D)
      → IsRefusedBy digest no_writes stamp story.before P e → IsRefusedStory digest w story e
  refused_before stamp es follows e is =
      inl (subst (λ x. IsRefusedBy digest no_writes x story.before (WasFull digest) e) es (by_further digest no_writes stamp story.before follows e is))

  -- of the batch
  pub refused_after : {X D : Type 0} (s : State) (first stamp : Stamp) (r : Result X (MessageFault D)) → first ≡ stamp_of_records w story.batch.writes → stamp ≡ own_stamp w
      → state_of_given no_writes first story.before ≡ Ok s → IfErr r (IsRefusedBy digest s stamp story.batch (WasFull digest)) → IfErr r (IsRefusedStory digest w story)
  refused_after s first stamp (Ok x) ef es e is = tt
  refused_after s first stamp (Err f) ef es e is = inr (
    s,
    subst (λ x. state_of_given no_writes x story.before ≡ Ok s) ef e,
    subst (λ x. IsRefusedBy digest s x story.batch (WasFull digest) f) es is,
  )

  pub never_refused : {D : Type 0} (e : MessageFault D) → IsOfNoLine e → IsRefusedStory digest w story e
  never_refused e is = inl (lineless digest no_writes (stamp_of_records w story.batch.writes) story.before (WasFull digest) e is)

  pub all_never : {X D : Type 0} (r : Result X (MessageFault D)) (f : MessageFault D) → IsErrAnd r (λ e. e ≡ f) → IsOfNoLine f
      → IfErr r (IsRefusedStory digest w story)
  all_never r f e is = passed (λ q. IfErr q (IsRefusedStory digest w story)) r f e (never_refused f is)

module _ {X D : Type 0} (digest : List ℕ → List ℕ) (form : Form) (w : Words) (input : Option (List ℕ)) (r : Result X (MessageFault D)) where
  -- whatever the lines are
  pub untold_of_no_line : (f : MessageFault D) → IsErrAnd r (λ e. e ≡ f) → IsOfNoLine f → IfErr r (λ e. IfSome input (λ xs. IsUntold digest form w xs e))
  untold_of_no_line f e is =
      passed (λ q. IfErr q (λ e. IfSome input (λ xs. IsUntold digest form w xs e))) r f e
      (always_known (λ xs. IsUntold digest form w xs f) input (λ xs. never_refused digest w (story_in form xs) f is))

-- where an input is known, its story is the one that was read
pub untold_of_story : {X D : Type 0} (digest : List ℕ → List ℕ) (form : Form) (w : Words) (input : Option (List ℕ)) (story : Story) (r : Result X (MessageFault D))
    → IfSome input (λ xs. story ≡ story_in form xs) → IfErr r (IsRefusedStory digest w story) → IfErr r (λ e. IfSome input (λ xs. IsUntold digest form w xs e))
untold_of_story digest form w input story (Ok x) read refused = tt
untold_of_story digest form w input story (Err e) read refused =
    for_known (λ xs. story ≡ story_in form xs) (λ xs. IsUntold digest form w xs e) input (λ xs same. subst (λ s. IsRefusedStory digest w s e) same refused) read

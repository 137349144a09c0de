-- A step from a tree, from what a preview of its changes says.
use Rattle.std.proofs.Common.{◌≡◌, ℕ, suc, max, List, [], ◌∷◌, ◌++◌, map, refl, sym, ap, subst, ◌∙◌, ◌⊎◌, inl, inr, Option, Result, Ok, Err}
use Rattle.std.specs.Prelude.{Contains, IfOk}
use Rattle.std.specs.List.{AllByRecursion}
use Rattle.std.specs.declared.sync.Arc.{Arc}
use Rattle.std.proofs.lemmas.List.{append-nil}
use Rattle.spec.specs.Cid.{IsDigest}
use Rattle.spec.specs.Layer.{layer}
use Rattle.spec.specs.Tree.{Pair, top, top_layer}
use Rattle.spec.specs.NodeFormat.{node_bytes}
use Rattle.spec.specs.Blocks.{ArePairs, root as root_of, value_of}
use Rattle.batch_laws.specs.Batch.{Change, changed, AreAscending, AreKeyed}
use Rattle.batch_laws.specs.Counts.{put_layers}
use Rattle.batch_laws.specs.Previous.{values}
use Rattle.batch_laws.specs.Trace.{batch_read}
use Rattle.edit.specs.Batches.{answer_of as answer_over, most_of}
use Rattle.edit.specs.Previews.{IsPreview, IsPreviewOf, IsPreviewReason, IsWant as IsEditWant}
use Rattle.edit.specs.declared.outcome.EditFault.{EditFault}
use Rattle.edit.specs.declared.outcome.EditFault.TheVariants as edits
use Rattle.change_laws.specs.Told.{KeyChange, undone, DifferBy}
use Rattle.change_laws.proofs.Undone.{undone-differ}
use Rattle.step_laws.specs.Turned.{turned, done}
use Rattle.step_laws.specs.Step.{step_verdict}
use Rattle.step_laws.specs.StepLaws.{step_path}
use Rattle.step_laws.proofs.Turning.{undone-turned, differ-turned}
use Rattle.step_laws.proofs.Stepping.{step-complete}
use Rattle.change_proofs.specs.Verdicts.{of_preview, IsWant}
use Rattle.change_proofs.specs.StepProvings.{told_as, IsStepOf, IsStepOver, IsStepLack}
use Rattle.change_proofs.specs.declared.change_fault.ChangeFault.{ChangeFault}
use Rattle.change_proofs.specs.declared.change_fault.ChangeFault.TheVariants.{BlockMissing, BadNode, TooDeep, NotTree, OtherValue, OtherRoot, NoMemory}

-- what holds of an answer, from three things that do
pub if-ok : {T E : Type 0} {P Q R S : T → Type 0} (r : Result T E) → ((x : T) → P x → Q x → R x → S x) → IfOk r P → IfOk r Q
    → IfOk r R → IfOk r S
if-ok (Ok x) f p q h = f x p q h
if-ok (Err e) f p q h = tt

-- where no change is left, or no value, all are told
pub all-told : (t whole : List KeyChange) (cs : List Change) (vs : List (Option (List ℕ))) → (cs ≡ []) ⊎ (vs ≡ [])
    → t ++ told_as cs vs ≡ whole → t ≡ whole
all-told t whole [] vs e h = sym (append-nil t) ∙ h
all-told t whole (c ∷ cs) [] e h = sym (append-nil t) ∙ h
all-told t whole (c ∷ cs) (v ∷ vs) (inl e) h = absurd cc
all-told t whole (c ∷ cs) (v ∷ vs) (inr e) h = absurd cc

-- ---- want of memory

pub preview-want : {D A : Type 0} (fault : EditFault D A) → IsEditWant fault → IsWant (of_preview fault)
preview-want (edits.Missing c) h = h
preview-want (edits.BadNode c) h = h
preview-want edits.TooDeep h = h
preview-want edits.NotTree h = h
preview-want edits.NoSuchKey h = h
preview-want (edits.Clash pair) h = h
preview-want edits.NoMemory h = tt

-- ---- over any source

module _ {A : Type 0} (digest : List ℕ → List ℕ) (bits : ℕ) (gives : List ℕ → Option (Arc (List ℕ) A)) (root : List ℕ)
    (cs : List Change) where
  pub step-over : (new : List ℕ) (previous : List (Option (List ℕ))) (read : List (List ℕ))
      → IsPreview digest bits gives cs root new previous read → (after : List ℕ) (told : List KeyChange)
      (nodes : List (List ℕ)) → after ≡ new → told ≡ told_as cs previous → nodes ≡ read
      → IsStepOver digest bits gives root cs after told nodes
  step-over new previous read p after told nodes a t n = record {
    left = p.left;
    log = p.log;
    is = subst (λ r. answer_over digest bits gives cs root ≡ Ok ((r, p.left), p.log)) (sym a) p.is;
    told_is = λ m shown. t ∙ ap (told_as cs) (p.previous_is m shown);
    nodes_are = n ∙ p.read_is;
  }

  pub step-lack : {D : Type 0} (fault : EditFault D A)
      → IsPreviewReason gives (most_of digest bits gives cs root) (answer_over digest bits gives cs root) fault
      → IsStepLack digest bits gives root cs (of_preview fault)
  step-lack (edits.Missing c) h = h
  step-lack (edits.BadNode c) h = h
  step-lack edits.TooDeep h = h
  step-lack edits.NotTree h = h
  step-lack edits.NoSuchKey h = absurd h
  step-lack (edits.Clash pair) h = absurd h
  step-lack edits.NoMemory h = tt

  pub want-lack : (fault : ChangeFault) → IsWant fault → IsStepLack digest bits gives root cs fault
  want-lack (BlockMissing c) h = absurd h
  want-lack (BadNode c) h = absurd h
  want-lack TooDeep h = absurd h
  want-lack NotTree h = absurd h
  want-lack (OtherValue place) h = h
  want-lack OtherRoot h = h
  want-lack NoMemory h = tt

-- ---- of the pairs of a tree

abbrev met : List Change → List Pair → List KeyChange
met cs es = told_as cs (values cs es)

done-met : (cs : List Change) (es : List Pair) → done (met cs es) ≡ cs
done-met [] es = refl
done-met (c ∷ cs) es = ap (λ t. c ∷ t) (done-met cs es)

met-before : (cs : List Change) (es : List Pair) → AllByRecursion (λ c. value_of c.key es ≡ c.after) (turned (met cs es))
met-before [] es = tt
met-before (c ∷ cs) es = (refl, met-before cs es)

met-differ : (cs : List Change) (es : List Pair) → AreKeyed cs → ArePairs es → DifferBy (met cs es) es (changed cs es)
met-differ cs es keyed are =
    let t = met cs es in
    let is : undone (turned t) ≡ cs = undone-turned t ∙ done-met cs es in
    differ-turned t es (changed cs es) (subst (λ us. DifferBy (turned t) (changed us es) es) is
    (undone-differ (turned t) es (subst AreAscending (sym is) keyed.ascending) are (met-before cs es)))

module _ (digest : List ℕ → List ℕ) (bits : ℕ) (fits : IsDigest digest) (cs : List Change) (es : List Pair)
    (keyed : AreKeyed cs) (are : ArePairs es) where
  pub step-of : (new : List ℕ) (previous : List (Option (List ℕ))) (read : List (List ℕ))
      → IsPreviewOf digest bits cs es new previous read → (after : List ℕ) (told : List KeyChange) (nodes : List (List ℕ))
      → after ≡ new → told ≡ told_as cs previous → nodes ≡ read → IsStepOf digest bits cs es after told nodes
  step-of new previous read p after told nodes a t n =
      let lay = layer digest bits in
      let told_is : told ≡ met cs es = t ∙ ap (told_as cs) p.previous_is in
      let done_is : done told ≡ cs = ap done told_is ∙ done-met cs es in
      let after_is : after ≡ root_of digest bits (changed cs es) = a ∙ p.root_is in
      let differ : DifferBy told es (changed cs es) =
      subst (λ ds. DifferBy ds es (changed cs es)) (sym told_is) (met-differ cs es keyed are) in
      let nodes_are : nodes ≡ step_path digest bits told es = n ∙ p.read_is
      ∙ ap (λ us. map (node_bytes digest) (batch_read lay (max (suc (top_layer lay es)) (put_layers lay us)) us (top lay es)))
      (sym done_is) in
      record {
        after_is = after_is;
        done_is = done_is;
        differ = differ;
        nodes_are = nodes_are;
        shown = λ given are_new free has. subst (λ r. step_verdict digest bits (root_of digest bits es) r given told ≡ Ok tt)
            (sym after_is)
            (step-complete digest bits fits es (changed cs es) are are_new given free told
            (subst AreKeyed (sym done_is) keyed) differ
            (λ b c. has b (subst (λ bs. Contains bs b) (sym nodes_are) c)));
      }

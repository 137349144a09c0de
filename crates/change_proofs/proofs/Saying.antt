-- What the root that comes out and the values say of changes.
use Rattle.std.proofs.Common.{◌≡◌, ℕ, List, [], refl, sym, ap, subst, ◌∙◌, Option, Result, Ok, Err}
use Rattle.std.specs.Prelude.{IsSome}
use Rattle.std.specs.declared.option.Option.TheVariants.{Some, None}
use Rattle.std.specs.declared.sync.Arc.{Arc}
use Rattle.spec.specs.Reading.{◌>>=◌}
use Rattle.spec.specs.Layer.{layer}
use Rattle.spec.specs.NodeFormat.{Shape}
use Rattle.lookups.specs.Steps.{nodes_given}
use Rattle.batch_laws.specs.Links.{LinkClear, LinkTooDeep, Log, NotShown, Step, Stop, StopsAt, Top, and_then, log_shown, walking_top, topping}
use Rattle.batch_laws.specs.Previous.{previous_top}
use Rattle.batch_laws.specs.Counts.{layers_needed, put_layers}
use Rattle.edit.specs.Batches.{answer_of, most_of}
use Rattle.edit.specs.Previews.{IsPreview, IsPreviewReason, IsReachedHere}
use Rattle.batch_laws.specs.Within.{IsWithin, at_top}
use Rattle.edit.specs.declared.outcome.EditFault.{EditFault}
use Rattle.edit.specs.declared.outcome.EditFault.TheVariants as edits
use Rattle.change_laws.specs.Told.{KeyChange, undone}
use Rattle.change_laws.specs.Given.{ChangeFault as GivenFault, BadNode as HasBadNode, NotTree as HasNotTree, unshown, stop_fault_of, or_stop}
use Rattle.change_laws.specs.Verdict.{previous_of, are_told}
use Rattle.change_laws.proofs.Lacking.{IsAnswered}
use Rattle.change_laws.proofs.Within.{within-is, not-within, within-is_stop, beyond-is_fault}
use Rattle.change_proofs.specs.Verdicts.{of_preview, judgement, verdict_of, IsJudged, IsFault, IsSaid, IsSaidOver, values_met}
use Rattle.change_proofs.specs.declared.change_fault.ChangeFault.{ChangeFault}
use Rattle.change_proofs.specs.declared.change_fault.ChangeFault.TheVariants.{BlockMissing, BadNode, TooDeep, NotTree, OtherValue, OtherRoot, NoMemory}

-- ---- what a batch comes to

-- a block that is given is no node where a step stops at it
unshown-given : {X : Type 0} (c : List ℕ) (o : Option X) → IsSome o → unshown c o ≡ HasBadNode c
unshown-given c None h = absurd cc
unshown-given c (Some b) h = refl

-- where a batch is not stopped for what it reads or makes
abbrev stop_verdict : {X : Type 0} → (List ℕ → Option X) → Step Top → List (Option (List ℕ)) → List KeyChange → List ℕ
    → Result (Unit {0}) GivenFault
stop_verdict gives answer vs cs before = or_stop gives answer >>= (λ old. judgement (are_told 0 vs cs) old.0.0 before)

-- it stops, and why
stop-said : {X : Type 0} (gives : List ℕ → Option X) (answer : Step Top) (vs : List (Option (List ℕ))) (cs : List KeyChange)
    (before : List ℕ) (why : Stop) → StopsAt why answer → stop_verdict gives answer vs cs before ≡ Err (stop_fault_of gives why)
stop-said gives (Ok x) vs cs before why stops = absurd stops
stop-said gives (Err e) vs cs before why stops = ap (λ w. Err (stop_fault_of gives w)) stops

module _ {X : Type 0} (gives : List ℕ → Option X) (most : ℕ) (answer : Step Top) (vs : List (Option (List ℕ)))
    (cs : List KeyChange) (before : List ℕ) where
  abbrev verdict : Result (Unit {0}) GivenFault
  verdict = verdict_of gives most answer vs cs before

  within-said : IsWithin most (at_top answer) → verdict ≡ stop_verdict gives answer vs cs before
  within-said h =
      ap (λ (t : Result (Top × Log) GivenFault). t >>= (λ old. judgement (are_told 0 vs cs) old.0.0 before))
      (within-is_stop gives most answer (within-is most answer h))

  beyond-said : (¬ IsWithin most (at_top answer)) → verdict ≡ Err HasNotTree
  beyond-said h =
      ap (λ (t : Result (Top × Log) GivenFault). t >>= (λ old. judgement (are_told 0 vs cs) old.0.0 before))
      (beyond-is_fault gives most answer (not-within most answer h))

  halt-said : IsWithin most (at_top answer) → (why : Stop) → StopsAt why answer → verdict ≡ Err (stop_fault_of gives why)
  halt-said h why stops = within-said h ∙ stop-said gives answer vs cs before why stops

  -- why there is no preview is why nothing is shown
  pub fault-said : {D A : Type 0} (fault : EditFault D A) → IsPreviewReason gives most answer fault
      → IsReachedHere most answer fault → IsFault gives verdict (of_preview fault)
  fault-said (edits.Missing c) h r = (h.0, halt-said r (NotShown c) h.1 ∙ ap (λ o. Err (unshown c o)) h.0)
  fault-said (edits.BadNode c) h r =
      (h.0, halt-said r (NotShown c) h.1 ∙ ap (λ f. Err f) (unshown-given c (gives c) h.0))
  fault-said edits.TooDeep h r = halt-said r LinkTooDeep h
  fault-said edits.NotTree h r = beyond-said h
  fault-said edits.NoSuchKey h r = absurd h
  fault-said (edits.Clash pair) h r = absurd h
  fault-said edits.NoMemory h r = tt

  module _ (new : List ℕ) (left : List Shape) (log : Log) (is : answer ≡ Ok ((new, left), log)) (few : IsWithin most (at_top answer))
      (told : Result (Unit {0}) GivenFault) (is_told : are_told 0 vs cs ≡ told) where
    answer-said : verdict ≡ judgement told new before
    answer-said =
        within-said few ∙ ap (λ (a : Step Top). stop_verdict gives a vs cs before) is
        ∙ ap (λ t. judgement t new before) is_told

    -- what is judged is said
    pub judged-said : (result : Result (Unit {0}) ChangeFault) → IsJudged (judgement told new before) result
        → IsSaid gives verdict result
    judged-said (Ok x) h = answer-said ∙ h
    judged-said (Err (BlockMissing c)) h = absurd h
    judged-said (Err (BadNode c)) h = absurd h
    judged-said (Err TooDeep) h = absurd h
    judged-said (Err NotTree) h = absurd h
    judged-said (Err (OtherValue place)) h = answer-said ∙ h
    judged-said (Err OtherRoot) h = answer-said ∙ h
    judged-said (Err NoMemory) h = absurd h

module _ {A : Type 0} (digest : List ℕ → List ℕ) (bits : ℕ) (gives : List ℕ → Option (Arc (List ℕ) A)) (root : List ℕ)
    (cs : List KeyChange) where
  abbrev lay : List ℕ → ℕ
  lay = layer digest bits

  abbrev shows : List ℕ → Option Shape
  shows = nodes_given gives

  abbrev answer : Step Top
  answer = answer_of digest bits gives (undone cs) root

  abbrev start : Log
  start = record { read = []; made = [] }

  abbrev from_top : ℕ → Shape → Log → Step Top
  from_top n s log = and_then (walking_top digest shows lay n (undone cs) s log) (topping digest shows n)

  -- where there is an answer, a node has the root
  met : (n : ℕ) (previous : List (Option (List ℕ))) (o : Option Shape)
      → IsAnswered (and_then (log_shown root LinkClear o start) (from_top n))
      → ((top : Shape) → o ≡ Some top → previous ≡ previous_top shows lay (undone cs) top)
      → previous ≡ previous_of shows lay (undone cs) o
  met n previous None a f = absurd a
  met n previous (Some top) a f = f top refl

  pub values-are : (new : List ℕ) (previous : List (Option (List ℕ))) (read : List (List ℕ))
      → IsPreview digest bits gives (undone cs) root new previous read → previous ≡ values_met digest bits gives root cs
  values-are new previous read p =
      met (layers_needed lay (put_layers lay (undone cs)) (shows root)) previous (shows root)
      (subst (λ (a : Step Top). IsAnswered a) (sym p.is) tt) p.previous_is

  pub preview-said : (before new : List ℕ) (previous : List (Option (List ℕ))) (read : List (List ℕ))
      → IsPreview digest bits gives (undone cs) root new previous read
      → IsWithin (most_of digest bits gives (undone cs) root) (at_top answer) → (told : Result (Unit {0}) GivenFault)
      → are_told 0 previous cs ≡ told → (result : Result (Unit {0}) ChangeFault)
      → IsJudged (judgement told new before) result → IsSaidOver digest bits gives before root cs result
  preview-said before new previous read p few told q =
      judged-said gives (most_of digest bits gives (undone cs) root) answer (values_met digest bits gives root cs) cs before
      new p.left p.log p.is few told (subst (λ vs. are_told 0 vs cs ≡ told) (values-are new previous read p) q)

  -- why there is no preview is the verdict
  pub reason-said : {D : Type 0} (before : List ℕ) (fault : EditFault D A)
      → IsPreviewReason gives (most_of digest bits gives (undone cs) root) answer fault
      → IsReachedHere (most_of digest bits gives (undone cs) root) answer fault
      → IsSaidOver digest bits gives before root cs (Err (of_preview fault))
  reason-said before fault h few =
      fault-said gives (most_of digest bits gives (undone cs) root) answer (values_met digest bits gives root cs) cs before
      fault h few

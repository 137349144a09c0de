-- What a batch comes to, from what the walk answers.
use Rattle.std.proofs.Common.{◌≡◌, ℕ, ◌+◌, List, ◌++◌, Option, sym, ap, subst, ◌∙◌, arith, Ok, Result}
use Rattle.std.specs.declared.option.Option.TheVariants.{Some}
use Rattle.std.specs.declared.sync.Arc.{Arc}
use Rattle.spec.specs.Cid.{IsDigest}
use Rattle.spec.specs.Layer.{layer}
use Rattle.spec.specs.Tree.{Pair}
use Rattle.spec.specs.NodeFormat.{Shape}
use Rattle.spec.specs.Blocks.{root as root_of}
use Rattle.edit_laws.specs.Laws.Edits.{bytes_of}
use Rattle.edit_laws.specs.Sources.{shown_by}
use Rattle.lookups.specs.Steps.{nodes_given}
use Rattle.lookups.specs.Trees.{HasTree}
use Rattle.batch_laws.specs.Batch.{Change, changed, AreAscending}
use Rattle.batch_laws.specs.Links.{Log, Top, batch_from, Step, NotShown, LinkTooDeep, Stopped}
use Rattle.batch_laws.specs.Previous.{previous_top}
use Rattle.batch_laws.specs.Counts.{layers_needed, put_layers}
use Rattle.batch_laws.specs.Within.{IsWithin, at_top}
use Rattle.edit.specs.Batches.{answer_of, of_walk}
use Rattle.edit.specs.Previews.{IsPreview, IsPreviewOf, IsPreviewReason, IsReachedHere, IsWant}
use Rattle.edit.specs.Halts.{IsReachedFor}
use Rattle.edit.specs.Refusals.{IsRefusal}
use Rattle.edit.specs.Stops.{IsCause}
use Rattle.edit.specs.Tops.{IsEnded}
use Rattle.edit.specs.declared.outcome.Fault.{Fault}
use Rattle.edit.specs.declared.outcome.Fault.TheVariants as walks
use Rattle.edit.proofs.OnTree.{is-batch, answers, read-bytes, met-values, top-stops}

-- what was read and met is that of the answer
pub preview-of : {A : Type 0} (digest : List ℕ → List ℕ) (bits : ℕ) (gives : List ℕ → Option (Arc (List ℕ) A)) (cs : List Change)
    (root new : List ℕ) (gone : ℕ) (now : Log) (previous : List (Option (List ℕ))) (read : List (List ℕ))
    → IsEnded (answer_of digest bits gives cs root) new gone now
    → ((top : Shape) → nodes_given gives root ≡ Some top → previous ≡ previous_top (nodes_given gives) (layer digest bits) cs top)
    → read ≡ bytes_of now.read → IsPreview digest bits gives cs root new previous read
preview-of digest bits gives cs root new gone now previous read ended had is = record {
  left = ended.left;
  log = ended.next;
  is = ended.is;
  previous_is = had;
  read_is = is ∙ ap bytes_of ended.read;
}

same-some : {X : Type 0} (x y : X) → ◌≡◌ {A = Result X Stopped} (Ok x) (Ok y) → x ≡ y
same-some x y h = cc

-- over a source that has a tree
pub preview-tree : (digest : List ℕ → List ℕ) (bits : ℕ) (fits : IsDigest digest) (gives : List ℕ → Option (List ℕ))
    (root : List ℕ) (cs : List Change) (es : List Pair) (has : HasTree digest bits gives root es) (new : List ℕ)
    (previous : List (Option (List ℕ))) (read : List (List ℕ)) (left : List Shape) (log : Log) → AreAscending cs
    → batch_from digest (shown_by gives) (layer digest bits)
    (layers_needed (layer digest bits) (put_layers (layer digest bits) cs) (shown_by gives root)) cs root ≡ Ok ((new, left), log)
    → ((m : Shape) → shown_by gives root ≡ Some m → previous ≡ previous_top (shown_by gives) (layer digest bits) cs m)
    → read ≡ bytes_of (log.read ++ left) → IsPreviewOf digest bits cs es new previous read
preview-tree digest bits fits gives root cs es has new previous read left log ascend is had read_is =
    let b = is-batch digest bits fits gives root cs es has in
    let same = same-some ((new, left), log) ((root_of digest bits (changed cs es), b.left), b.log)
    (sym is ∙ answers digest bits fits gives root cs es has) in
    record {
      root_is = ap (λ (x : Top × Log). x.0.0) same;
      previous_is = met-values digest bits fits gives root cs es has previous ascend had;
      read_is = read_is ∙ ap (λ (x : Top × Log). bytes_of (x.1.read ++ x.0.1)) same
          ∙ read-bytes digest bits fits gives root cs es has;
    }

-- why there is none, seen from the tree
pub walk-want : (D A : Type 0) (digest : List ℕ → List ℕ) (blocks : List (List ℕ)) (fault : Fault)
    → IsRefusal {D = D} {A = A} digest blocks ⊥ (of_walk fault) → IsWant {D = D} {A = A} (of_walk fault)
walk-want D A digest blocks (walks.Missing c) r = absurd r
walk-want D A digest blocks (walks.BadNode c) r = absurd r
walk-want D A digest blocks walks.TooDeep r = absurd r
walk-want D A digest blocks walks.NotTree r = absurd r
walk-want D A digest blocks walks.NoMemory r = tt

-- and over any source
pub preview-reason : {X : Type 0} (D A : Type 0) (given : List ℕ → Option X) (most : ℕ) (answer : Step Top)
    (fault : Fault) → IsCause given (most + 0) (at_top answer) fault
    → IsPreviewReason {D = D} {A = A} given most answer (of_walk fault)
preview-reason D A given most answer (walks.Missing c) cause = (cause.0, top-stops answer (NotShown c) cause.1)
preview-reason D A given most answer (walks.BadNode c) cause = (cause.0, top-stops answer (NotShown c) cause.1)
preview-reason D A given most answer walks.TooDeep cause = top-stops answer LinkTooDeep cause
preview-reason D A given most answer walks.NotTree cause =
    let all : most + 0 ≡ most = omega arith in subst (λ m. ¬ IsWithin m (at_top answer)) all cause
preview-reason D A given most answer walks.NoMemory cause = tt

-- as far as it comes, nothing is wrong there
pub reached-here : (D A : Type 0) (most : ℕ) (answer : Step Top) (fault : Fault) → IsReachedFor most answer fault
    → IsReachedHere {D = D} {A = A} most answer (of_walk fault)
reached-here D A most answer (walks.Missing c) h = h
reached-here D A most answer (walks.BadNode c) h = h
reached-here D A most answer walks.TooDeep h = h
reached-here D A most answer walks.NotTree h = tt
reached-here D A most answer walks.NoMemory h = tt

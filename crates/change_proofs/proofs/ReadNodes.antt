-- The nodes that show changes, from what the batch that undoes them reads.
use Rattle.std.proofs.Common.{◌≡◌, ℕ, List, sym, ap, subst, ◌∙◌, Option, Result, Ok, Err}
use Rattle.std.specs.Prelude.{Contains, IfOk, IfErr, OnOk}
use Rattle.std.specs.declared.sync.Arc.{Arc}
use Rattle.spec.specs.Cid.{IsDigest}
use Rattle.spec.specs.Tree.{Pair}
use Rattle.spec.specs.Blocks.{ArePairs, ClashesWithNone, nodes, pairs, root as root_of}
use Rattle.spec.specs.States.{State, records}
use Rattle.batch_laws.specs.Batch.{AreKeyed}
use Rattle.edit.specs.Batches.{answer_of as answer_over, most_of}
use Rattle.edit.specs.Previews.{IsPreview, IsPreviewOf, IsPreviewReason, IsWant}
use Rattle.edit.specs.declared.outcome.EditFault.{EditFault}
use Rattle.edit.specs.declared.outcome.EditFault.TheVariants as edits
use Rattle.change_laws.specs.Told.{KeyChange, undone, DifferBy}
use Rattle.change_laws.specs.Verdict.{are_told, change_verdict}
use Rattle.change_laws.proofs.Showing.{verdict-complete}
use Rattle.change_proofs.specs.Verdicts.{of_preview}
use Rattle.change_proofs.specs.Provings.{AreNodes, AreNodesOver, IsFaultOf, IsLackOver, IsOtherValue, IsUntrue, proving_fault_of}
use Rattle.change_proofs.specs.declared.change_fault.ChangeFault.{ChangeFault}
use Rattle.change_proofs.specs.declared.change_fault.ChangeFault.TheVariants.{BlockMissing, BadNode, TooDeep, NotTree, OtherValue, OtherRoot, NoMemory}
use Rattle.change_proofs.specs.declared.proving_fault.ProvingFault.{ProvingFault}

-- what holds of an answer and beside it
pub ok-with : {T E : Type 0} {P Q : T → Type 0} {R : Type 0} (r : Result T E) → ((x : T) → P x → R → Q x) → IfOk r P → OnOk r R
    → IfOk r Q
ok-with (Ok x) f p h = f x p h
ok-with (Err e) f p h = tt

pub err-with : {T E : Type 0} {P Q : E → Type 0} (r : Result T E) → ((e : E) → P e → Q e) → IfErr r P → IfErr r Q
err-with (Ok x) f p = tt
err-with (Err e) f p = f e p

-- ---- over a source that has a tree

pub tree-nodes : (digest : List ℕ → List ℕ) (bits : ℕ) (cs : List KeyChange) (es : List Pair) (new : List ℕ)
    (previous : List (Option (List ℕ))) (read : List (List ℕ)) → IsPreviewOf digest bits (undone cs) es new previous read
    → are_told 0 previous cs ≡ Ok tt → AreNodes digest bits cs es read
tree-nodes digest bits cs es new previous read p t = record {
  told = ap (λ vs. are_told 0 vs cs) (sym p.previous_is) ∙ t;
  nodes_are = p.read_is;
}

pub tree-other : (digest : List ℕ → List ℕ) (bits : ℕ) (cs : List KeyChange) (es : List Pair) (new : List ℕ)
    (previous : List (Option (List ℕ))) (read : List (List ℕ)) → IsPreviewOf digest bits (undone cs) es new previous read
    → (fault : ChangeFault) → IsOtherValue previous cs fault → IsFaultOf es cs fault
tree-other digest bits cs es new previous read p (BlockMissing c) h = h
tree-other digest bits cs es new previous read p (BadNode c) h = h
tree-other digest bits cs es new previous read p TooDeep h = h
tree-other digest bits cs es new previous read p NotTree h = h
tree-other digest bits cs es new previous read p (OtherValue place) h = ap (λ vs. are_told 0 vs cs) (sym p.previous_is) ∙ h
tree-other digest bits cs es new previous read p OtherRoot h = h
tree-other digest bits cs es new previous read p NoMemory h = tt

pub tree-want : {D A : Type 0} (cs : List KeyChange) (es : List Pair) (fault : EditFault D A) → IsWant fault
    → IsFaultOf es cs (of_preview fault)
tree-want cs es (edits.Missing c) h = h
tree-want cs es (edits.BadNode c) h = h
tree-want cs es edits.TooDeep h = h
tree-want cs es edits.NotTree h = h
tree-want cs es edits.NoSuchKey h = h
tree-want cs es (edits.Clash pair) h = h
tree-want cs es edits.NoMemory h = tt

-- ---- over any source

module _ {A : Type 0} (digest : List ℕ → List ℕ) (bits : ℕ) (gives : List ℕ → Option (Arc (List ℕ) A)) (root : List ℕ)
    (cs : List KeyChange) where
  pub over-nodes : (new : List ℕ) (previous : List (Option (List ℕ))) (read : List (List ℕ))
      → IsPreview digest bits gives (undone cs) root new previous read → are_told 0 previous cs ≡ Ok tt
      → AreNodesOver digest bits gives root cs read
  over-nodes new previous read p t = record {
    new = new;
    left = p.left;
    log = p.log;
    is = p.is;
    told = λ m shown. ap (λ vs. are_told 0 vs cs) (sym (p.previous_is m shown)) ∙ t;
    nodes_are = p.read_is;
  }

  pub over-other : (new : List ℕ) (previous : List (Option (List ℕ))) (read : List (List ℕ))
      → IsPreview digest bits gives (undone cs) root new previous read → (fault : ChangeFault)
      → IsOtherValue previous cs fault → IsLackOver digest bits gives root cs fault
  over-other new previous read p (BlockMissing c) h = absurd h
  over-other new previous read p (BadNode c) h = absurd h
  over-other new previous read p TooDeep h = absurd h
  over-other new previous read p NotTree h = absurd h
  over-other new previous read p (OtherValue place) h =
      λ m shown. ap (λ vs. are_told 0 vs cs) (sym (p.previous_is m shown)) ∙ h
  over-other new previous read p OtherRoot h = h
  over-other new previous read p NoMemory h = tt

  pub over-lack : {D : Type 0} (fault : EditFault D A)
      → IsPreviewReason gives (most_of digest bits gives (undone cs) root) (answer_over digest bits gives (undone cs) root) fault
      → IsLackOver digest bits gives root cs (of_preview fault)
  over-lack (edits.Missing c) h = h
  over-lack (edits.BadNode c) h = h
  over-lack edits.TooDeep h = h
  over-lack edits.NotTree h = h
  over-lack edits.NoSuchKey h = absurd h
  over-lack (edits.Clash pair) h = absurd h
  over-lack edits.NoMemory h = tt

-- ---- what the nodes show

pub nodes-show : (digest : List ℕ → List ℕ) (bits : ℕ) → IsDigest digest → (cs : List KeyChange) (es : List Pair)
    → ArePairs es → AreKeyed (undone cs) → (proof : List (List ℕ)) → AreNodes digest bits cs es proof → (old : List Pair)
    → ArePairs old → DifferBy cs old es → (given : List (List ℕ)) → ClashesWithNone digest (nodes digest bits es) given
    → ((b : List ℕ) → Contains proof b → Contains given b)
    → change_verdict digest bits (root_of digest bits old) (root_of digest bits es) given cs ≡ Ok tt
nodes-show digest bits fits cs es are keyed proof n old are_old differ given free has =
    verdict-complete digest bits fits old es are_old are given free cs keyed differ
    (λ b c. has b (subst (λ p. Contains p b) (sym n.nodes_are) c))

-- ---- of a repository

fault-told : (digest : List ℕ → List ℕ) (s : State) (cs : List KeyChange) (fault : ChangeFault)
    → IsFaultOf (pairs digest (records s)) cs fault → IsUntrue digest s cs (proving_fault_of fault)
fault-told digest s cs (BlockMissing c) h = tt
fault-told digest s cs (BadNode c) h = tt
fault-told digest s cs TooDeep h = tt
fault-told digest s cs NotTree h = tt
fault-told digest s cs (OtherValue place) h = h
fault-told digest s cs OtherRoot h = tt
fault-told digest s cs NoMemory h = tt

pub told-fault : (digest : List ℕ → List ℕ) (s : State) (cs : List KeyChange) (fault : ChangeFault)
    (told : ProvingFault) → told ≡ proving_fault_of fault → IsFaultOf (pairs digest (records s)) cs fault → IsUntrue digest s cs told
told-fault digest s cs fault told e h = subst (IsUntrue digest s cs) (sym e) (fault-told digest s cs fault h)

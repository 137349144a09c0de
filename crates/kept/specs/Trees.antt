-- Look-ups and edits in the trees of what is kept.
use Rattle.std.specs.Prelude.{◌≡◌, ◌≤◌, ◌++◌, ℕ, suc, List, length, map as each, Option}
use Rattle.std.specs.Prelude.{Result, IfOk, IfErr}
use Rattle.std.specs.Arc.{arc_value}
use Rattle.std.specs.declared.vec.Vec.{Vec}
use Rattle.spec.specs.Tree.{Pair, top_layer as top_of}
use Rattle.spec.specs.Layer.{layer}
use Rattle.spec.specs.Blocks.{nodes, value_of, listed}
use Rattle.batch_laws.specs.Batch.{Change, changed}
use Rattle.batch_laws.specs.Counts.{most_reads}
use Rattle.lookups.specs.Trees.{HasTree, top_layer}
use Rattle.lookups.specs.Walks.{pairs_given}
use Rattle.counts.specs.declared.count.Count.{Count}
use Rattle.edit.specs.Batches.{IsBatchOf, nodes_read}
use Rattle.edit.specs.Refusals.{IsRefusal}
use Rattle.edit.specs.declared.outcome.BatchEdit.{BatchEdit}
use Rattle.edit.specs.declared.outcome.EditFault.{EditFault}
use Rattle.kept.specs.Counts.{Counts, bytes_at}

-- for every list of pairs whose tree has this root among these blocks
abbrev pub OfTree : (List ℕ → List ℕ) → ℕ → Counts → List ℕ → (List Pair → Type 0) → Type 0
OfTree digest bits m root P = (es : List Pair) → HasTree digest bits (bytes_at m) root es → P es

-- what was found under a key
abbrev pub IsValue : List ℕ → Option (List ℕ) → List Pair → Type 0
IsValue key value es = value ≡ value_of key es

-- the first pairs from a key on were found
abbrev pub AreListed : {A E : Type 0} → List ℕ → ℕ → Result (Vec (Vec ℕ A × List ℕ) A) E
    → List Pair → Type 0
AreListed from limit result es =
    IfOk result (λ pairs. pairs_given pairs.items ≡ listed from limit es)

-- one block was read for each layer, at most
abbrev pub IsReadOnce : (List ℕ → List ℕ) → ℕ → Counts → List ℕ → Count → Type 0
IsReadOnce digest bits m root asked =
    OfTree digest bits m root (λ es. asked.times ≤ suc (top_layer digest bits es))

-- the edit is that of these changes
abbrev pub IsApplied : {D A : Type 0} → (List ℕ → List ℕ) → ℕ → Counts → List ℕ → List Change
    → Result (BatchEdit D A × Count) (EditFault D A) → Type 0
IsApplied digest bits m root cs result = OfTree digest bits m root (λ es. IfOk result (λ made.
    IsBatchOf digest bits cs es made.0.root
    (each arc_value made.0.add.items) made.0.drop.items made.0.previous.items))

-- and it has the nodes that these changes read, each once, in the order in which they are read
abbrev pub HasNodes : {D A : Type 0} → (List ℕ → List ℕ) → ℕ → Counts → List ℕ → List Change
    → Result (BatchEdit D A × Count) (EditFault D A) → Type 0
HasNodes digest bits m root cs result = OfTree digest bits m root (λ es. IfOk result (λ made.
    each arc_value made.0.read.items ≡ nodes_read digest bits cs es))

-- it is refused as nodes of the tree before and after clash, or memory was wanted
abbrev pub IsApplyRefusal : {D A : Type 0} → (List ℕ → List ℕ) → ℕ → Counts → List ℕ → List Change
    → Result (BatchEdit D A × Count) (EditFault D A) → Type 0
IsApplyRefusal digest bits m root cs result = OfTree digest bits m root (λ es.
    IfErr result (IsRefusal digest (nodes digest bits es ++ nodes digest bits (changed cs es)) ⊥))

-- just the nodes that the changes need were read
abbrev pub AreReadFor : (List ℕ → List ℕ) → ℕ → Counts → List ℕ → List Change → Count → Type 0
AreReadFor digest bits m root cs asked =
    OfTree digest bits m root (λ es. asked.times ≡ length (nodes_read digest bits cs es))

-- the root was read, and for each layer below it one block for a value and two for a key that goes, at most
abbrev pub IsReadAtMost : (List ℕ → List ℕ) → ℕ → Counts → List ℕ → List Change → Count → Type 0
IsReadAtMost digest bits m root cs asked = OfTree digest bits m root
    (λ es. asked.times ≤ suc (most_reads (top_of (layer digest bits) es) cs))

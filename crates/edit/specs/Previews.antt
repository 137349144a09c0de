-- What a batch comes to, with the nodes that it reads.
use Rattle.std.specs.Prelude.{◌≡◌, ⊤, ℕ, List, ◌++◌, map, Option, Some, None, Ok, Err, Result, IfOk, IfErr, IsSome}
use Rattle.std.specs.Arc.{arc_value}
use Rattle.std.specs.declared.sync.Arc.{Arc}
use Rattle.spec.specs.Tree.{Pair}
use Rattle.spec.specs.Layer.{layer as layer_of_key}
use Rattle.spec.specs.NodeFormat.{Shape}
use Rattle.spec.specs.Blocks.{root as root_of}
use Rattle.edit_laws.specs.Laws.Edits.{bytes_of}
use Rattle.lookups.specs.Steps.{nodes_given}
use Rattle.lookups.specs.Trees.{OfTree}
use Rattle.batch_laws.specs.Batch.{Change, changed}
use Rattle.batch_laws.specs.Links.{LinkTooDeep, Log, NotShown, Step, StopsAt, Top}
use Rattle.batch_laws.specs.Previous.{previous_top, values}
use Rattle.batch_laws.specs.Within.{IsWithin, at_top}
use Rattle.edit.specs.Batches.{answer_of, most_of, nodes_read}
use Rattle.edit.specs.declared.previews.BatchPreview.{BatchPreview}
use Rattle.edit.specs.declared.outcome.EditFault.{EditFault}
use Rattle.edit.specs.declared.outcome.EditFault.TheVariants.{Missing, BadNode, TooDeep, NotTree, NoSuchKey, Clash, NoMemory}

-- ---- over any source

-- the preview is of what the batch answers
pub record IsPreview {A : Type 0} (digest : List ℕ → List ℕ) (bits : ℕ) (gives : List ℕ → Option (Arc (List ℕ) A))
    (cs : List Change) (root new : List ℕ) (previous : List (Option (List ℕ))) (read : List (List ℕ)) : Type 0 where
  pub left : List Shape
  pub log : Log
  pub is : answer_of digest bits gives cs root ≡ Ok ((new, left), log)
  pub previous_is : (top : Shape) → nodes_given gives root ≡ Some top
      → previous ≡ previous_top (nodes_given gives) (layer_of_key digest bits) cs top
  pub read_is : read ≡ bytes_of (log.read ++ left)

abbrev pub IsPreviewed : {D A : Type 0} → (List ℕ → List ℕ) → ℕ → (List ℕ → Option (Arc (List ℕ) A)) → List ℕ
    → List Change → Result (BatchPreview D A) (EditFault D A) → Type 0
IsPreviewed digest bits gives root cs result = IfOk result (λ preview. IsPreview digest bits gives cs root
    preview.root preview.previous.items (map arc_value preview.read.items))

-- Why there is none: the source lacks the block with this CID, or gives one that is no node, and there the batch stops; it stops
-- at a link below layer 0; or, as far as it comes, it reads more nodes than these, or keys don't ascend in a node that it makes.
-- Nothing else comes.
abbrev pub IsPreviewReason : {X D A : Type 0} → (List ℕ → Option X) → ℕ → Step Top → EditFault D A → Type 0
IsPreviewReason gives most answer (Missing c) = (gives c ≡ None) × StopsAt (NotShown c) answer
IsPreviewReason gives most answer (BadNode c) = IsSome (gives c) × StopsAt (NotShown c) answer
IsPreviewReason gives most answer TooDeep = StopsAt LinkTooDeep answer
IsPreviewReason gives most answer NotTree = ¬ IsWithin most (at_top answer)
IsPreviewReason gives most answer NoSuchKey = ⊥
IsPreviewReason gives most answer (Clash pair) = ⊥
IsPreviewReason gives most answer NoMemory = ⊤

abbrev pub IsPreviewLack : {D A : Type 0} → (List ℕ → List ℕ) → ℕ → (List ℕ → Option (Arc (List ℕ) A)) → List ℕ
    → List Change → Result (BatchPreview D A) (EditFault D A) → Type 0
IsPreviewLack digest bits gives root cs result =
    IfErr result (IsPreviewReason gives (most_of digest bits gives cs root) (answer_of digest bits gives cs root))

-- As far as the batch comes, it reads no more nodes, and what it writes has keys of the grammar: where the source is at fault,
abbrev pub IsReachedHere : {D A : Type 0} → ℕ → Step Top → EditFault D A → Type 0
IsReachedHere most answer (Missing c) = IsWithin most (at_top answer)
IsReachedHere most answer (BadNode c) = IsWithin most (at_top answer)
IsReachedHere most answer TooDeep = IsWithin most (at_top answer)
IsReachedHere most answer NotTree = ⊤
IsReachedHere most answer NoSuchKey = ⊤
IsReachedHere most answer (Clash pair) = ⊤
IsReachedHere most answer NoMemory = ⊤

-- and where there is an answer
abbrev pub IsPreviewReached : {D A : Type 0} → (List ℕ → List ℕ) → ℕ → (List ℕ → Option (Arc (List ℕ) A)) → List ℕ
    → List Change → Result (BatchPreview D A) (EditFault D A) → Type 0
IsPreviewReached digest bits gives root cs (Ok preview) =
    IsWithin (most_of digest bits gives cs root) (at_top (answer_of digest bits gives cs root))
IsPreviewReached digest bits gives root cs (Err fault) =
    IsReachedHere (most_of digest bits gives cs root) (answer_of digest bits gives cs root) fault

-- ---- over a source that has a tree

-- the preview is of the tree of these pairs: its root after the changes, what their keys had, and the nodes that they read
pub record IsPreviewOf (digest : List ℕ → List ℕ) (bits : ℕ) (cs : List Change) (es : List Pair) (root : List ℕ)
    (previous : List (Option (List ℕ))) (read : List (List ℕ)) : Type 0 where
  pub root_is : root ≡ root_of digest bits (changed cs es)
  pub previous_is : previous ≡ values cs es
  pub read_is : read ≡ nodes_read digest bits cs es

abbrev pub IsPreviewedTree : {D A : Type 0} → (List ℕ → List ℕ) → ℕ → (List ℕ → Option (Arc (List ℕ) A)) → List ℕ
    → List Change → Result (BatchPreview D A) (EditFault D A) → Type 0
IsPreviewedTree digest bits gives root cs result = OfTree digest bits gives root (λ es. IfOk result (λ preview.
    IsPreviewOf digest bits cs es preview.root preview.previous.items (map arc_value preview.read.items)))

-- memory is wanted, and nothing else
abbrev pub IsWant : {D A : Type 0} → EditFault D A → Type 0
IsWant (Missing c) = ⊥
IsWant (BadNode c) = ⊥
IsWant TooDeep = ⊥
IsWant NotTree = ⊥
IsWant NoSuchKey = ⊥
IsWant (Clash pair) = ⊥
IsWant NoMemory = ⊤

abbrev pub IsPreviewWant : {D A : Type 0} → (List ℕ → List ℕ) → ℕ → (List ℕ → Option (Arc (List ℕ) A)) → List ℕ
    → List Change → Result (BatchPreview D A) (EditFault D A) → Type 0
IsPreviewWant digest bits gives root cs result = OfTree digest bits gives root (λ es. IfErr result IsWant)

-- What is answered where a step from a tree is to be shown: of the pairs of a tree, and over any source.
use Rattle.std.specs.Prelude.{◌≡◌, ⊤, Contains, ℕ, List, [], ◌∷◌, ◌++◌, Option, Some, None, Ok, IsSome}
use Rattle.std.specs.declared.sync.Arc.{Arc}
use Rattle.spec.specs.Layer.{layer}
use Rattle.spec.specs.Tree.{Pair}
use Rattle.spec.specs.NodeFormat.{Shape}
use Rattle.spec.specs.Blocks.{ArePairs, ClashesWithNone, nodes as nodes_of, root as root_of}
use Rattle.edit_laws.specs.Laws.Edits.{bytes_of}
use Rattle.lookups.specs.Steps.{nodes_given}
use Rattle.batch_laws.specs.Batch.{Change, changed}
use Rattle.batch_laws.specs.Links.{LinkTooDeep, Log, NotShown, StopsAt}
use Rattle.batch_laws.specs.Previous.{previous_top}
use Rattle.batch_laws.specs.Within.{IsWithin, at_top}
use Rattle.edit.specs.Batches.{answer_of as answer_over, most_of}
use Rattle.change_laws.specs.Told.{KeyChange, DifferBy}
use Rattle.step_laws.specs.Turned.{done}
use Rattle.step_laws.specs.Step.{step_verdict}
use Rattle.step_laws.specs.StepLaws.{step_path}
use Rattle.change_proofs.specs.declared.change_fault.ChangeFault.{ChangeFault}
use Rattle.change_proofs.specs.declared.change_fault.ChangeFault.TheVariants.{BlockMissing, BadNode, TooDeep, NotTree, OtherValue, OtherRoot, NoMemory}

-- a change with what its key had before
abbrev pub told_one : Change → Option (List ℕ) → KeyChange
told_one c v = record { key = c.0; before = v; after = c.1 }

-- changes with what their keys had before
abbrev pub told_as : List Change → List (Option (List ℕ)) → List KeyChange
told_as [] vs = []
told_as (c ∷ cs) [] = []
told_as (c ∷ cs) (v ∷ vs) = told_one c v ∷ told_as cs vs

-- ---- of the pairs of a tree

-- These changes of the pairs of a tree, told with what their keys had before, lead to this root; these are the nodes that doing
-- them reads, and wherever they are given the step is shown.
pub record IsStepOf (digest : List ℕ → List ℕ) (bits : ℕ) (cs : List Change) (es : List Pair) (after : List ℕ)
    (told : List KeyChange) (nodes : List (List ℕ)) : Type 0 where
  pub after_is : after ≡ root_of digest bits (changed cs es)
  pub done_is : done told ≡ cs
  pub differ : DifferBy told es (changed cs es)
  pub nodes_are : nodes ≡ step_path digest bits told es
  pub shown : (given : List (List ℕ)) → ArePairs (changed cs es) → ClashesWithNone digest (nodes_of digest bits es) given
      → ((b : List ℕ) → Contains nodes b → Contains given b)
      → step_verdict digest bits (root_of digest bits es) after given told ≡ Ok tt

-- ---- over a source

module _ {A : Type 0} (digest : List ℕ → List ℕ) (bits : ℕ) (gives : List ℕ → Option (Arc (List ℕ) A)) (root : List ℕ)
    (cs : List Change) where
  -- this root is the batch's answer there; the changes are told with what it meets, and these are the nodes that it reads
  pub record IsStepOver (after : List ℕ) (told : List KeyChange) (nodes : List (List ℕ)) : Type 0 where
    pub left : List Shape
    pub log : Log
    pub is : answer_over digest bits gives cs root ≡ Ok ((after, left), log)
    pub told_is : (top : Shape) → nodes_given gives root ≡ Some top
        → told ≡ told_as cs (previous_top (nodes_given gives) (layer digest bits) cs top)
    pub nodes_are : nodes ≡ bytes_of (log.read ++ left)

  -- Why there is none: the source lacks the block with this CID, or gives one that is no node, and there the batch stops; it
  -- stops at a link below layer 0; as far as it comes, it reads more nodes than these, or keys don't ascend in a node that it
  -- makes; or memory is wanted.
  abbrev pub IsStepLack : ChangeFault → Type 0
  IsStepLack (BlockMissing c) = (gives c ≡ None) × StopsAt (NotShown c) (answer_over digest bits gives cs root)
  IsStepLack (BadNode c) = IsSome (gives c) × StopsAt (NotShown c) (answer_over digest bits gives cs root)
  IsStepLack TooDeep = StopsAt LinkTooDeep (answer_over digest bits gives cs root)
  IsStepLack NotTree = ¬ IsWithin (most_of digest bits gives cs root) (at_top (answer_over digest bits gives cs root))
  IsStepLack (OtherValue place) = ⊥
  IsStepLack OtherRoot = ⊥
  IsStepLack NoMemory = ⊤

-- A whole tree that is changed.
use Rattle.std.specs.Prelude.{◌≡◌, ◌+◌, ℕ, List, [], Option, Some, length, Result, IfOk, IfErr}
use Rattle.std.specs.declared.sync.Arc.{Arc}
use Rattle.spec.specs.Layer.{layer}
use Rattle.spec.specs.NodeFormat.{Shape}
use Rattle.lookups.specs.Steps.{nodes_given}
use Rattle.batch_laws.specs.Batch.{Change}
use Rattle.batch_laws.specs.Previous.{previous_top}
use Rattle.edit.specs.Batches.{answer_of, most_of}
use Rattle.edit.specs.States.{log_in}
use Rattle.batch_laws.specs.Within.{at_top}
use Rattle.edit.specs.Stops.{IsStopped}
use Rattle.edit.specs.Tops.{IsEnded}
use Rattle.edit.specs.declared.outcome.Fault.{Fault}
use Rattle.edit.specs.declared.whole.Changed.{Changed}

-- as many more reads as blocks were read for it
abbrev pub IsReadFor : {D A : Type 0} → ℕ → ℕ → Result (Changed D A) Fault → Type 0
IsReadFor before after result = IfOk result (λ changed. after ≡ before + length changed.edge.read.items)

module _ {D A : Type 0} (digest : List ℕ → List ℕ) (bits : ℕ) (gives : List ℕ → Option (Arc (List ℕ) A))
    (cs : List Change) (root : List ℕ) where
  -- it is what the changes answer
  abbrev pub IsChanged : Result (Changed D A) Fault → Type 0
  IsChanged result = IfOk result (λ changed.
      IsEnded (answer_of digest bits gives cs root) changed.root changed.gone (log_in changed.edge))

  -- it has what the changed keys had
  abbrev pub HasPrevious : Result (Changed D A) Fault → Type 0
  HasPrevious result = (top : Shape) → nodes_given gives root ≡ Some top → IfOk result (λ changed.
      changed.previous.items ≡ previous_top (nodes_given gives) (layer digest bits) cs top)

  -- it was not changed, as the source has no answer to the changes
  abbrev pub IsUnchanged : ℕ → ℕ → Result (Changed D A) Fault → Type 0
  IsUnchanged before after result = IfErr result (IsStopped gives (before, most_of digest bits gives cs root) after
      (record { read = []; made = [] }) (at_top (answer_of digest bits gives cs root)))

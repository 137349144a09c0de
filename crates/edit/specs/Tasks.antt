-- What a task that is done says: the agenda and the edge after it.
use Rattle.std.specs.Prelude.{ℕ, List, Option, Result}
use Rattle.std.specs.declared.sync.Arc.{Arc}
use Rattle.edit.specs.Agenda.{IsDone, Task, task_does}
use Rattle.edit.specs.States.{edge_in, log_in}
use Rattle.edit.specs.Steps.{IsStep}
use Rattle.edit.specs.declared.edge.Edge.{Edge}
use Rattle.edit.specs.declared.outcome.Fault.{Fault}

-- of these tasks one is done with these values before it, and these tasks and values are there after it
abbrev pub Performs : {S T D A : Type 0} → (S → List ℕ → Option (Arc (List ℕ) A)) → (S → ℕ) → S → S → Edge D A → Edge D A
    → (List ℕ → List ℕ) → (List ℕ → ℕ) → ℕ → Task → List Task → List Task → List (Option (List ℕ)) → List (Option (List ℕ))
    → Result T Fault → Type 0
Performs gives reads before after old new digest layer n task left more values now =
    IsStep gives reads before after old new
    (λ shows _. IsDone digest shows layer n task left (edge_in old) (log_in old) values more (edge_in new) (log_in new) now)
    (λ shows. task_does digest shows layer n task (edge_in old) (log_in old))

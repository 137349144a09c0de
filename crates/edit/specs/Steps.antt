-- What each step of the code says of its edge, of its source and of where it stops. A step of the laws is given by what a source
-- shows: the nodes by their CIDs.
use Rattle.std.specs.Prelude.{◌≡◌, ℕ, List, Option, Ok, Result, IfOk, IfErr, OnOk}
use Rattle.std.specs.declared.sync.Arc.{Arc}
use Rattle.spec.specs.NodeFormat.{Shape}
use Rattle.lookups.specs.Steps.{nodes_given}
use Rattle.rows.specs.declared.draft.DraftFault.{DraftFault}
use Rattle.batch_laws.specs.Batch.{Change}
use Rattle.batch_laws.specs.Links.{LinkClear, LinkEdge, Log, Step, ask, opening}
use Rattle.edit.specs.Halts.{most_in, IsHalted, IsHaltedFrom, IsStill}
use Rattle.edit.specs.Passing.{IsUnpassed}
use Rattle.edit.specs.States.{edge_in, log_in, IsCountedOn}
use Rattle.edit.specs.Stops.{IsStopped, IsUnread, open_edge}
use Rattle.edit.specs.declared.edge.Edge.{Edge}
use Rattle.edit.specs.declared.outcome.Fault.{Fault}

-- the edge after a step is what the laws make of it, with each read counted and the source as it was; or the step stops with a
-- fault, where the laws stop
pub record IsStep {S T D A : Type 0} (gives : S → List ℕ → Option (Arc (List ℕ) A)) (reads : S → ℕ) (before after : S)
    (old new : Edge D A) (is_done : (List ℕ → Option Shape) → T → Type 0) (step : (List ℕ → Option Shape) → Step LinkEdge)
    (result : Result T Fault) : Type 0 where
  pub done : IfOk result (is_done (nodes_given (gives before)))
  pub counted : OnOk result (IsCountedOn (reads before) old (reads after) new)
  pub same : gives after ≡ gives before
  pub stopped : IfErr result (IsStopped (gives before) (reads before, old.left) (reads after) (log_in old)
      (step (nodes_given (gives before))))
  pub halted : IfErr result (IsHaltedFrom old new (step (nodes_given (gives before))))

-- a step after which the edge is just what this makes of it
abbrev pub Makes : {S T D A : Type 0} → (S → List ℕ → Option (Arc (List ℕ) A)) → (S → ℕ) → S → S → Edge D A → Edge D A
    → ((List ℕ → Option Shape) → LinkEdge → Log → Step LinkEdge) → Result T Fault → Type 0
Makes gives reads before after old new step =
    IsStep gives reads before after old new
    (λ shows _. step shows (edge_in old) (log_in old) ≡ Ok (edge_in new, log_in new))
    (λ shows. step shows (edge_in old) (log_in old))

-- the node with this CID was read: it is that of the source
abbrev pub IsShown : {D A : Type 0} → (List ℕ → Option Shape) → List ℕ → Edge D A → Edge D A → Shape → Type 0
IsShown shows asked old new node = ask shows asked LinkClear (log_in old) ≡ Ok (node, log_in new)

-- a node is read, and nothing comes to the edge; or it isn't read, and nothing came of it
pub record IsRead {S T D A : Type 0} (gives : S → List ℕ → Option (Arc (List ℕ) A)) (reads : S → ℕ) (before after : S)
    (old new : Edge D A) (asked : List ℕ) (is_shown : (List ℕ → Option Shape) → T → Type 0) (result : Result T Fault)
    : Type 0 where
  pub shown : IfOk result (is_shown (nodes_given (gives before)))
  pub counted : OnOk result (IsCountedOn (reads before) old (reads after) new)
  pub levels : new.levels.items ≡ old.levels.items
  pub rest : new.rest ≡ old.rest
  pub same : gives after ≡ gives before
  pub unread : IfErr result (IsUnread (gives before) (reads before, old.left) (reads after) asked
      (nodes_given (gives before) asked))
  pub still : IfErr result (IsStill old new)

-- the layer above this part of an edge is opened; or it isn't, and nothing came of it
pub record IsOpening {S T D A : Type 0} (gives : S → List ℕ → Option (Arc (List ℕ) A)) (reads : S → ℕ) (before after : S)
    (old new : Edge D A) (below : LinkEdge) (is_opened : (List ℕ → Option Shape) → Type 0) (result : Result T Fault)
    : Type 0 where
  pub opened : OnOk result (is_opened (nodes_given (gives before)))
  pub counted : OnOk result (IsCountedOn (reads before) old (reads after) new)
  pub same : gives after ≡ gives before
  pub stopped : IfErr result (IsStopped (gives before) (reads before, old.left) (reads after) (log_in old)
      (open_edge (opening (nodes_given (gives before)) below (log_in old))))
  pub still : IfErr result (IsStill old new)
  pub halted : IfErr result (IsHalted (most_in old) below (log_in old)
      (open_edge (opening (nodes_given (gives before)) below (log_in old))))

-- what is left of a node comes to the edge in part, with nothing read or made for it
pub record IsPassing {T D A : Type 0} (layer depth : ℕ) (cs : List Change) (node : Shape) (old new : Edge D A)
    (is_passed : T → Type 0) (result : Result T DraftFault) : Type 0 where
  pub passed : IfOk result is_passed
  pub log : log_in new ≡ log_in old
  pub budget : new.left ≡ old.left
  pub fault : IfErr result (IsUnpassed layer depth cs node (edge_in old) (log_in old))

-- nothing is read
pub record ReadsNothing {D A : Type 0} (old new : Edge D A) : Type 0 where
  pub read : new.read.items ≡ old.read.items
  pub budget : new.left ≡ old.left

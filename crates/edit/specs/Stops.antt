-- Where a step stops: what its fault means, and how much was read by then. A step is what the laws make of it, an edge with
-- its log, or why the laws stop.
use Rattle.std.specs.Prelude.{◌≡◌, ◌≤◌, ◌+◌, ⊤, ℕ, suc, List, length, Option, None, Ok, IsSome}
use Rattle.spec.specs.NodeFormat.{Shape}
use Rattle.edit_laws.specs.Lawful.{HasKeys}
use Rattle.batch_laws.specs.Links.{Rows, LinkEdge, LinkClear, LinkOpened, Log, LinkTooDeep, NotShown, Step, StopsAt, and_then, closing}
use Rattle.batch_laws.specs.Written.{AreWritten, OnAnswer, OnEnd, GoesFrom}
use Rattle.batch_laws.specs.Within.{IsWithin}
use Rattle.rows.specs.declared.draft.DraftFault.{DraftFault}
use Rattle.rows.specs.declared.draft.DraftFault.TheVariants as drafts
use Rattle.edit.specs.Budgets.{Budget}
use Rattle.edit.specs.declared.outcome.Fault.{Fault}
use Rattle.edit.specs.declared.outcome.Fault.TheVariants.{Missing, BadNode, TooDeep, NotTree, NoMemory}

-- as far as it comes, not each node that was made has keys of the grammar, with each that is open one that may still have them
abbrev pub IsUnwritten : Step LinkEdge → Type 0
IsUnwritten step = OnEnd (λ s. s) step (λ s log. ¬ AreWritten HasKeys s log)

-- a node was not written; of a want of memory nothing is said
abbrev pub IsRefused : Step LinkEdge → DraftFault → Type 0
IsRefused step drafts.NotNode = IsUnwritten step
IsRefused step drafts.NoMemory = ⊤

-- what a node that is not written is to the whole walk
abbrev pub draft_fault_of : DraftFault → Fault
draft_fault_of drafts.NotNode = NotTree
draft_fault_of drafts.NoMemory = NoMemory

-- the source lacks just the block at which the laws stop, or gives one that is no node; or they stop at a link below layer 0; or,
-- as far as they come, they read more nodes, or write keys that are not of the grammar
abbrev pub IsCause : {A : Type 0} → (List ℕ → Option A) → ℕ → Step LinkEdge → Fault → Type 0
IsCause gives most step (Missing c) = (gives c ≡ None) × StopsAt (NotShown c) step
IsCause gives most step (BadNode c) = IsSome (gives c) × StopsAt (NotShown c) step
IsCause gives most step TooDeep = StopsAt LinkTooDeep step
IsCause gives most step NotTree = ¬ IsWithin most step
IsCause gives most step NoMemory = ⊤

-- a step that was begun with a log stopped, after no more reads than its answer would have, and no more than were left
pub record IsStopped {A : Type 0} (gives : List ℕ → Option A) (before : Budget) (after : ℕ) (log : Log)
    (step : Step LinkEdge) (fault : Fault) : Type 0 where
  pub cause : IsCause gives (before.1 + length log.read) step fault
  pub reads : OnAnswer step (λ s later. after + length log.read ≤ before.0 + length later.read)
  pub few : after ≤ before.0 + before.1

-- ---- one node that is read

-- the source lacks the block that is asked for, or gives what is no node; or no more may be read
abbrev pub IsUnshown : {A : Type 0} → (List ℕ → Option A) → ℕ → List ℕ → Option Shape → Fault → Type 0
IsUnshown gives left asked shown (Missing c) = (c ≡ asked) × (gives c ≡ None) × (shown ≡ None)
IsUnshown gives left asked shown (BadNode c) = (c ≡ asked) × IsSome (gives c) × (shown ≡ None)
IsUnshown gives left asked shown TooDeep = ⊥
IsUnshown gives left asked shown NotTree = left ≡ 0
IsUnshown gives left asked shown NoMemory = ⊤

-- the node with a CID was not read, after one read at most, and none where none was left
pub record IsUnread {A : Type 0} (gives : List ℕ → Option A) (before : Budget) (after : ℕ) (asked : List ℕ)
    (shown : Option Shape) (fault : Fault) : Type 0 where
  pub cause : IsUnshown gives before.1 asked shown fault
  pub reads : after ≤ suc before.0
  pub few : after ≤ before.0 + before.1

-- ---- steps

-- a step that goes on from each edge that it is given
abbrev pub IsOnward : (LinkEdge → Log → Step LinkEdge) → Type 0
IsOnward f = (s : LinkEdge) (log : Log) → GoesFrom HasKeys s log (f s log)

-- all of an edge is complete
abbrev pub all_closed : (List ℕ → List ℕ) → LinkEdge → Log → Step LinkEdge
all_closed digest s log = Ok (LinkClear, (closing digest s log).1)

-- rows and the edge after them, as an edge
abbrev pub open_edge : Step (Rows × LinkEdge) → Step LinkEdge
open_edge step = and_then step (λ o later. Ok (LinkOpened o.0 o.1, later))

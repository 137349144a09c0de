-- Where a step stops for its source: at the edge and the log that there are then, within the reads that were left. A step that
-- stops as a node can't be written, or as memory is wanted, has no such place.
use Rattle.std.specs.Prelude.{◌≡◌, ◌<◌, ◌≤◌, ◌+◌, ⊤, ℕ, length, Ok, Err, Result}
use Rattle.edit_laws.specs.Lawful.{HasKeys}
use Rattle.batch_laws.specs.Links.{LinkEdge, LinkTooDeep, Log, NotShown, Step, Stop, Stopped, Top}
use Rattle.batch_laws.specs.Written.{AllGoOn}
use Rattle.batch_laws.specs.Within.{IsWithin, asked, at_top}
use Rattle.edit.specs.States.{edge_in, log_in}
use Rattle.edit.specs.declared.edge.Edge.{Edge}
use Rattle.edit.specs.declared.outcome.Fault.{Fault}
use Rattle.edit.specs.declared.outcome.Fault.TheVariants.{Missing, BadNode, TooDeep, NotTree, NoMemory}

-- it stops for this with this log, no more than so many nodes are read or asked for there, and what is open there may have keys of
-- the grammar where it may in this edge
pub record IsAt (most : ℕ) (why : Stop) (s : LinkEdge) (now : Log) (e : Stopped) : Type 0 where
  pub why_is : e.why ≡ why
  pub log_is : e.log ≡ now
  pub begun : AllGoOn HasKeys s → AllGoOn HasKeys e.edge
  pub few : asked why now ≤ most

abbrev pub Halts : ℕ → Stop → LinkEdge → Log → Step LinkEdge → Type 0
Halts most why s now (Ok x) = ⊥
Halts most why s now (Err e) = IsAt most why s now e

abbrev pub IsHalted : ℕ → LinkEdge → Log → Step LinkEdge → Fault → Type 0
IsHalted most s now step (Missing c) = Halts most (NotShown c) s now step
IsHalted most s now step (BadNode c) = Halts most (NotShown c) s now step
IsHalted most s now step TooDeep = Halts most LinkTooDeep s now step
IsHalted most s now step NotTree = ⊤
IsHalted most s now step NoMemory = ⊤

-- how many nodes an edge may have read in the end
abbrev pub most_in : {D A : Type 0} → Edge D A → ℕ
most_in e = e.left + length (log_in e).read

-- it stops where the edge of the code is after it
abbrev pub IsHaltedFrom : {D A : Type 0} → Edge D A → Edge D A → Step LinkEdge → Fault → Type 0
IsHaltedFrom old new step fault = IsHalted (most_in old) (edge_in new) (log_in new) step fault

-- one more node might be read, and nothing came of it
pub record Stays {D A : Type 0} (old new : Edge D A) : Type 0 where
  pub some : 0 < old.left
  pub levels : new.levels.items ≡ old.levels.items
  pub rest : new.rest ≡ old.rest
  pub log : log_in new ≡ log_in old

-- so it is where the source is at fault
abbrev pub IsStill : {D A : Type 0} → Edge D A → Edge D A → Fault → Type 0
IsStill old new (Missing c) = Stays old new
IsStill old new (BadNode c) = Stays old new
IsStill old new TooDeep = Stays old new
IsStill old new NotTree = ⊤
IsStill old new NoMemory = ⊤

-- ---- a whole batch

-- as far as a batch comes, it reads no more nodes, and what it writes has keys of the grammar, where it stops for its source
abbrev pub IsReachedFor : ℕ → Step Top → Fault → Type 0
IsReachedFor most answer (Missing c) = IsWithin most (at_top answer)
IsReachedFor most answer (BadNode c) = IsWithin most (at_top answer)
IsReachedFor most answer TooDeep = IsWithin most (at_top answer)
IsReachedFor most answer NotTree = ⊤
IsReachedFor most answer NoMemory = ⊤

-- and where it has an answer
abbrev pub IsReachedOn : {X : Type 0} → ℕ → Step Top → Result X Fault → Type 0
IsReachedOn most answer (Ok x) = IsWithin most (at_top answer)
IsReachedOn most answer (Err fault) = IsReachedFor most answer fault

-- What a batch writes on its way. Nodes that are made stay made, and rows that are open stay the front of a node: so what
-- holds of all nodes in the end, as that their keys ascend, never fails before.
use Rattle.std.specs.Prelude.{◌≤◌, length, Ok, Err}
use Rattle.std.specs.List.{AllByRecursion}
use Rattle.spec.specs.NodeFormat.{Shape}
use Rattle.batch_laws.specs.Links.{Rows, LinkEdge, LinkClear, LinkWaiting, LinkOpened, Log, Step, onto_links}

-- some node of which P holds begins with these rows
abbrev pub GoesOn : (Shape → Type 0) → Rows → Type 0
GoesOn P rows = (s : Shape) × P (onto_links rows s)

abbrev pub AllGoOn : (Shape → Type 0) → LinkEdge → Type 0
AllGoOn P LinkClear = Unit {0}
AllGoOn P (LinkWaiting c) = Unit {0}
AllGoOn P (LinkOpened rows s) = GoesOn P rows × AllGoOn P s

-- P holds of each node that was made, and may hold of each that is open
pub record AreWritten (P : Shape → Type 0) (s : LinkEdge) (log : Log) : Type 0 where
  pub made : AllByRecursion P log.made
  pub begun : AllGoOn P s

-- an edge with its log, from which another came: what is written now was written then, and no fewer nodes are read
pub record IsEarlier (P : Shape → Type 0) (s : LinkEdge) (log : Log) (t : LinkEdge) (later : Log) : Type 0 where
  pub written : AreWritten P t later → AreWritten P s log
  pub reads : length log.read ≤ length later.read

-- where a step has an answer
abbrev pub OnAnswer : {A : Type 0} → Step A → (A → Log → Type 0) → Type 0
OnAnswer (Err stop) P = Unit {0}
OnAnswer (Ok x) P = P x.0 x.1

-- what a step comes to: the edge that its answer stands for, or that at which it stops
abbrev pub OnEnd : {A : Type 0} → (A → LinkEdge) → Step A → (LinkEdge → Log → Type 0) → Type 0
OnEnd edge (Ok x) P = P (edge x.0) x.1
OnEnd edge (Err e) P = P e.edge e.log

-- a step goes on from this edge
abbrev pub GoesFrom : (Shape → Type 0) → LinkEdge → Log → Step LinkEdge → Type 0
GoesFrom P s log step = OnEnd (λ t. t) step (IsEarlier P s log)

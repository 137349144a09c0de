-- The edge of the code as the laws see it: an edge over links, and the log of what was read and made.
use Rattle.std.specs.Prelude.{◌≡◌, ◌<◌, ◌≤◌, ◌+◌, ℕ, suc, List, [], ◌∷◌, ◌++◌, map, length, take, drop, Option, Some, Ok}
use Rattle.std.specs.Arc.{arc_value}
use Rattle.std.specs.declared.sync.Arc.{Arc}
use Rattle.spec.specs.Tree.{Pair}
use Rattle.spec.specs.NodeFormat.{Shape, first_link}
use Rattle.rows.specs.Drafts.{shape_in}
use Rattle.batch_laws.specs.Links.{Rows, LinkEdge, Log, Step, opening, closing, link_edge, parting}
use Rattle.edit.specs.Budgets.{Budget}
use Rattle.edit.specs.Edges.{edge_of, within, joined, around}
use Rattle.rows.specs.Entries.{Reading}
use Rattle.edit.specs.declared.edge.Edge.{Edge}

-- the nodes of some blocks
abbrev pub shapes_in : {A : Type 0} → List (Arc (List ℕ) A) → List Shape
shapes_in blocks = map (λ b. shape_in (arc_value b)) blocks

abbrev pub edge_in : {D A : Type 0} → Edge D A → LinkEdge
edge_in e = edge_of e.levels.items e.rest

abbrev pub log_in : {D A : Type 0} → Edge D A → Log
log_in e = record { read = shapes_in e.read.items; made = shapes_in e.made.items }

-- one layer more is open
pub record IsOpened (shows : List ℕ → Option Shape) (ls : List Rows) (rest : Option (List ℕ)) (log : Log) (new : List Rows)
    (link : Option (List ℕ)) (next : Log) : Type 0 where
  pub rows : Rows
  pub is : opening shows (link_edge rest) log ≡ Ok ((rows, link_edge link), next)
  pub levels : new ≡ ls ++ (rows ∷ [])

-- the layer of this depth is open
pub record IsOpenAt (shows : List ℕ → Option Shape) (d : ℕ) (ls : List Rows) (rest : Option (List ℕ)) (log : Log)
    (new : List Rows) (link : Option (List ℕ)) (next : Log) : Type 0 where
  pub rows : Rows
  pub is : opening shows (edge_of (drop d ls) rest) log ≡ Ok ((rows, edge_of (drop (d + 1) new) link), next)
  pub levels : take (d + 1) new ≡ take d ls ++ (rows ∷ [])
  pub long : d < length new

-- a pair came to the layer of this depth
pub record IsAdded (digest : List ℕ → List ℕ) (d : ℕ) (e : Pair) (ls : List Rows) (rest : Option (List ℕ)) (log : Log)
    (new : List Rows) (next : Log) : Type 0 where
  pub above : List Rows
  pub rows : Rows
  pub cut : take (d + 1) ls ≡ above ++ (rows ∷ [])
  pub levels : let below = closing digest (edge_of (drop (d + 1) ls) rest) log in
      new ≡ above ++ ((rows ++ ((below.0, e) ∷ [])) ∷ [])
  pub log_is : next ≡ (closing digest (edge_of (drop (d + 1) ls) rest) log).1

-- a subtree's node comes to the layer of this depth, which is open
pub record IsComing (digest : List ℕ → List ℕ) (shows : List ℕ → Option Shape) (d : ℕ) (c : List ℕ) (ls : List Rows)
    (rest : Option (List ℕ)) (log : Log) (node : Shape) (new : List Rows) (link : Option (List ℕ)) (next : Log) : Type 0 where
  pub rows : Rows
  pub is : (k : ℕ) → parting digest shows (suc k) (Some c) (edge_of (drop d ls) rest) log
      ≡ joined digest rows node (parting digest shows k (first_link node) (edge_of (drop (d + 1) new) link) next)
  pub levels : take (d + 1) new ≡ take d ls ++ (rows ∷ [])
  pub long : d < length new

-- a subtree waits at this depth
pub record IsWaiting (digest : List ℕ → List ℕ) (shows : List ℕ → Option Shape) (d : ℕ) (c : List ℕ) (ls : List Rows)
    (rest : Option (List ℕ)) (log : Log) (new : List Rows) (link : Option (List ℕ)) (next : Log) : Type 0 where
  pub is : (k : ℕ) → parting digest shows (suc k) (Some c) (edge_of (drop d ls) rest) log
      ≡ Ok (edge_of (drop d new) link, next)
  pub levels : new ≡ ls

-- what a subtree makes is what is still to come of it, and then its nodes on the way to there
pub record IsOnTheWay (digest : List ℕ → List ℕ) (shows : List ℕ → Option Shape) (all : Step LinkEdge) (b k : ℕ)
    (l : Option (List ℕ)) (fs : List Shape) (ls : List Rows) (rest : Option (List ℕ)) (log : Log) : Type 0 where
  pub is : all ≡ around digest b (take (b + length fs) ls) fs
      (parting digest shows k l (edge_of (drop (b + length fs) ls) rest) log)
  pub long : b + length fs ≤ length ls

-- all of it has come but for those nodes
pub record IsArrived (digest : List ℕ → List ℕ) (all : Step LinkEdge) (b : ℕ) (fs : List Shape)
    (ls : List Rows) (rest : Option (List ℕ)) (log : Log) : Type 0 where
  pub is : all ≡ around digest b (take (b + length fs) ls) fs (Ok (edge_of (drop (b + length fs) ls) rest, log))
  pub long : b + length fs ≤ length ls

-- a node came to the layer of this depth, below which its first link's part had come
pub record IsJoined (digest : List ℕ → List ℕ) (d : ℕ) (node : Shape) (ls : List Rows) (rest : Option (List ℕ)) (log : Log)
    (new : List Rows) (link : Option (List ℕ)) (next : Log) : Type 0 where
  pub rows : Rows
  pub cut : take (d + 1) ls ≡ take d ls ++ (rows ∷ [])
  pub is : joined digest rows node (Ok (edge_of (drop (d + 1) ls) rest, log)) ≡ Ok (edge_of (drop d new) link, next)
  pub same : take d new ≡ take d ls
  pub long : d ≤ length new

-- as many more reads as the log has more, and so many fewer that are left
pub record IsCounted (before after : Budget) (log next : Log) : Type 0 where
  pub reads : after.0 + length log.read ≡ before.0 + length next.read
  pub left : after.1 + length next.read ≡ before.1 + length log.read

-- the same of an edge before and after, and of how often the source was asked by then
abbrev pub IsCountedOn : {D A : Type 0} → ℕ → Edge D A → ℕ → Edge D A → Type 0
IsCountedOn before old after new = IsCounted (before, old.left) (after, new.left) (log_in old) (log_in new)

-- opening layers on the way changes nothing of what comes so far below
abbrev pub KeepsWithin : (List ℕ → Option Shape) → ℕ → LinkEdge → Log → LinkEdge → Log → Type 0
KeepsWithin shows d s log t next =
    (f : LinkEdge → Log → Step LinkEdge) → within shows d f s log ≡ within shows d f t next

-- the nodes of which the first link's part came
abbrev pub shapes_coming : List Reading → List Shape
shapes_coming rs = map (λ r. r.rest) rs

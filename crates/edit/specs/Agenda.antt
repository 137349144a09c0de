-- The walk with an agenda in the place of its recursion: what is still to come, and what it makes of an edge.
use Rattle.std.specs.Prelude.{◌≡◌, ◌<◌, ◌≤◌, ℕ, zero, suc, ◌+◌, List, [], ◌∷◌, ◌++◌, Option, Some, None, Ok}
use Rattle.spec.specs.Tree.{Pair}
use Rattle.spec.specs.NodeFormat.{Shape, LastLink, MoreLinks}
use Rattle.batch_laws.specs.Batch.{Change, entry}
use Rattle.batch_laws.specs.Previous.{value_met, previous_node, previous_gap}
use Rattle.batch_laws.specs.Links.{LinkEdge, Log, Step, and_then, pairs_in_turn, walking_node, walking}

-- a pair of a node that is still to come, with the change at its key, what is left of the node after it, and the changes
-- after its key; the node stands at this depth, and its gaps have so many layers
pub record Later : Type 0 where
  pub layer : ℕ
  pub depth : ℕ
  pub pair : Pair
  pub at : Option (Option (List ℕ))
  pub rest : Shape
  pub changes : List Change

-- a gap with the changes in it; its subtree would stand at this depth, and has so many layers at most
pub record Gap : Type 0 where
  pub layer : ℕ
  pub depth : ℕ
  pub link : Option (List ℕ)
  pub changes : List Change

pub data Task : Type 0 where
  ToPair : Later → Task
  ToGap : Gap → Task

module _ (digest : List ℕ → List ℕ) (shows : List ℕ → Option Shape) (layer : List ℕ → ℕ) (n : ℕ) where
  -- what is left of a node
  abbrev pub node_does : (k d : ℕ) → List Change → Shape → LinkEdge → Log → Step LinkEdge
  node_does k d cs r s log = walking_node digest shows d (walking digest shows layer n k (suc d)) cs s r log

  abbrev pub task_does : Task → LinkEdge → Log → Step LinkEdge
  task_does (ToPair f) s log =
      and_then (pairs_in_turn digest shows (λ key. f.depth) (entry f.at f.pair) s log)
      (node_does f.layer f.depth f.changes f.rest)
  task_does (ToGap g) s log = walking digest shows layer n g.layer g.depth g.link g.changes s log

  -- the last comes first
  abbrev pub agenda_does : List Task → Step LinkEdge → Step LinkEdge
  agenda_does [] x = x
  agenda_does (f ∷ fs) x = and_then (agenda_does fs x) (task_does f)

-- ---- what the changed keys had

abbrev pub task_meets : (List ℕ → Option Shape) → Task → List (Option (List ℕ))
task_meets shows (ToPair f) = value_met f.at f.pair ++ previous_node (previous_gap shows f.layer) f.changes f.rest
task_meets shows (ToGap g) = previous_gap shows g.layer g.link g.changes

abbrev pub agenda_meets : (List ℕ → Option Shape) → List Task → List (Option (List ℕ))
agenda_meets shows [] = []
agenda_meets shows (f ∷ fs) = agenda_meets shows fs ++ task_meets shows f

-- ---- how much there is to do at most

abbrev pub size_of_node : (Option (List ℕ) → ℕ) → Shape → ℕ
size_of_node gap (LastLink l) = gap l
size_of_node gap (MoreLinks l e r) = suc (gap l + size_of_node gap r)

abbrev pub size_shown : (Option (List ℕ) → ℕ) → Option Shape → ℕ
size_shown gap None = 0
size_shown gap (Some s) = size_of_node gap s

abbrev pub size_of_gap : (List ℕ → Option Shape) → ℕ → Option (List ℕ) → ℕ
size_of_gap shows zero l = 1
size_of_gap shows (suc k) None = 1
size_of_gap shows (suc k) (Some c) = suc (size_shown (size_of_gap shows k) (shows c))

abbrev pub task_size : (List ℕ → Option Shape) → Task → ℕ
task_size shows (ToPair f) = suc (size_of_node (size_of_gap shows f.layer) f.rest)
task_size shows (ToGap g) = size_of_gap shows g.layer g.link

abbrev pub agenda_size : (List ℕ → Option Shape) → List Task → ℕ
agenda_size shows [] = 0
agenda_size shows (f ∷ fs) = agenda_size shows fs + task_size shows f

-- ---- steps of the walk

-- what is left of a node is put off to the agenda
pub record IsPutOff (k d : ℕ) (cs : List Change) (r : Shape) (old new : List Task) : Type 0 where
  pub does : (digest : List ℕ → List ℕ) (shows : List ℕ → Option Shape) (layer : List ℕ → ℕ) (n : ℕ) (s : LinkEdge)
      (log : Log) → agenda_does digest shows layer n old (node_does digest shows layer n k d cs r s log)
      ≡ agenda_does digest shows layer n new (Ok (s, log))
  pub meets : (shows : List ℕ → Option Shape)
      → agenda_meets shows new ≡ previous_node (previous_gap shows k) cs r ++ agenda_meets shows old
  pub smaller : (shows : List ℕ → Option Shape)
      → agenda_size shows new ≤ agenda_size shows old + size_of_node (size_of_gap shows k) r

-- what is left of a node came to the edge in part, and the rest is on the agenda
pub record IsGoneOn (k d : ℕ) (cs : List Change) (r : Shape) (old new : List Task) (s t : LinkEdge) : Type 0 where
  pub does : (digest : List ℕ → List ℕ) (shows : List ℕ → Option Shape) (layer : List ℕ → ℕ) (n : ℕ) (log : Log)
      → agenda_does digest shows layer n old (node_does digest shows layer n k d cs r s log)
      ≡ agenda_does digest shows layer n new (Ok (t, log))
  pub meets : (shows : List ℕ → Option Shape)
      → agenda_meets shows new ≡ previous_node (previous_gap shows k) cs r ++ agenda_meets shows old
  pub smaller : (shows : List ℕ → Option Shape)
      → agenda_size shows new ≤ agenda_size shows old + size_of_node (size_of_gap shows k) r

-- a task was done, or the agenda goes on where it stood
pub record IsDone (digest : List ℕ → List ℕ) (shows : List ℕ → Option Shape) (layer : List ℕ → ℕ) (n : ℕ) (task : Task)
    (fs : List Task) (s : LinkEdge) (log : Log) (values : List (Option (List ℕ)))
    (new : List Task) (t : LinkEdge) (later : Log) (more : List (Option (List ℕ))) : Type 0 where
  pub does : agenda_does digest shows layer n fs (task_does digest shows layer n task s log)
      ≡ agenda_does digest shows layer n new (Ok (t, later))
  pub meets : more ++ agenda_meets shows new ≡ values ++ (task_meets shows task ++ agenda_meets shows fs)
  pub smaller : agenda_size shows new < agenda_size shows fs + task_size shows task

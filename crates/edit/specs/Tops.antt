-- The top of the tree that the edge has become.
use Rattle.std.specs.Prelude.{◌≡◌, ℕ, ◌+◌, List, [], ◌∷◌, ◌++◌, length, take, drop, Option, None, Ok}
use Rattle.spec.specs.NodeFormat.{Shape, LastLink, MoreLinks}
use Rattle.batch_laws.specs.Links.{Rows, LinkClear, Log, Step, Top, ask, closing, new_top}
use Rattle.edit.specs.Edges.{edge_of}

-- the node at this depth is the top
pub record IsTopped (digest : List ℕ → List ℕ) (d : ℕ) (ls : List Rows) (rest : Option (List ℕ)) (log : Log)
    (root : List ℕ) (now : Log) : Type 0 where
  pub above : List Rows
  pub rows : Rows
  pub cut : take (d + 1) ls ≡ above ++ (rows ∷ [])
  pub is : new_top digest rows (closing digest (edge_of (drop (d + 1) ls) rest) log) ≡ Ok ((root, []), now)

-- where a search for the first pair goes on below a node
abbrev pub further_of : Shape → Option (List ℕ)
further_of (LastLink l) = l
further_of (MoreLinks l e r) = None

-- the node with a CID was read for it
pub record IsLooked (shows : List ℕ → Option Shape) (c : List ℕ) (log : Log) (further : Option (List ℕ)) (now : Log)
    : Type 0 where
  pub node : Shape
  pub shown : ask shows c LinkClear log ≡ Ok (node, now)
  pub further_is : further ≡ further_of node

-- the root, where the nodes that were read last stay
pub record IsTop (answer : Step Top) (root : List ℕ) (stay : ℕ) (now : Log) : Type 0 where
  pub left : List Shape
  pub next : Log
  pub is : answer ≡ Ok ((root, left), next)
  pub read : now.read ≡ next.read ++ left
  pub made : now.made ≡ next.made
  pub stay_is : stay ≡ length left

-- the root, where of the nodes that were read so many go
pub record IsEnded (answer : Step Top) (root : List ℕ) (gone : ℕ) (now : Log) : Type 0 where
  pub left : List Shape
  pub next : Log
  pub is : answer ≡ Ok ((root, left), next)
  pub read : now.read ≡ next.read ++ left
  pub made : now.made ≡ next.made
  pub gone_is : gone ≡ length next.read

-- Pairs of a node that no change touches: each comes to the open layer of its node's depth as it stands, with the link
-- before it.
use Rattle.std.specs.Prelude.{◌≡◌, ◌≤◌, ℕ, List, [], ◌∷◌, ◌++◌, length, Option, None}
use Rattle.spec.specs.Tree.{Pair}
use Rattle.std.specs.List.{AllByRecursion}
use Rattle.spec.specs.NodeFormat.{Shape, MoreLinks, first_link}
use Rattle.rows.specs.Drafts.{IsFaultOfAll}
use Rattle.rows.specs.Entries.{Reading, shape_at}
use Rattle.rows.specs.declared.draft.DraftFault.{DraftFault}
use Rattle.batch_laws.specs.Batch.{Change, before, at_key, after}
use Rattle.batch_laws.specs.Previous.{previous_node, previous_gap}
use Rattle.batch_laws.specs.Links.{Rows, LinkEdge, Log, onto_links}
use Rattle.edit.specs.Agenda.{node_does, size_of_node, size_of_gap}
use Rattle.edit.specs.Stops.{IsRefused}

-- no change touches the pair with this key and the link before it, below which stand so many layers: all are after it; and
-- the link is none where no layer is below
pub record IsUntouched (k : ℕ) (cs : List Change) (l : Option (List ℕ)) (key : List ℕ) : Type 0 where
  pub before_is : before key cs ≡ []
  pub at_is : at_key key cs ≡ None
  pub after_is : after key cs ≡ cs
  pub low : k ≡ 0 → l ≡ None

abbrev pub AreUntouched : ℕ → List Change → Rows → Type 0
AreUntouched k cs rows = AllByRecursion (λ x. IsUntouched k cs x.0 x.1.0) rows

-- pairs of a node that no change touches came to some rows, and this is left of it
pub record IsTaken (k : ℕ) (cs : List Change) (begun : Rows) (node : Shape) (new : Rows) (rest : Shape) : Type 0 where
  pub more : Rows
  pub new_is : new ≡ begun ++ more
  pub node_is : node ≡ onto_links more rest
  pub untouched : AreUntouched k cs more

-- none goes on from some rows and such pairs of a node
pub record IsUntaken (k : ℕ) (cs : List Change) (begun : Rows) (node : Shape) (fault : DraftFault) : Type 0 where
  pub more : Rows
  pub rest : Shape
  pub node_is : node ≡ onto_links more rest
  pub untouched : AreUntouched k cs more
  pub refused : IsFaultOfAll (begun ++ more) fault

-- what is left of a node at this depth makes of an edge what this rest of it makes of that one
pub record IsPassed (k d : ℕ) (cs : List Change) (node rest : Shape) (s t : LinkEdge) : Type 0 where
  pub does : (digest : List ℕ → List ℕ) (shows : List ℕ → Option Shape) (layer : List ℕ → ℕ) (n : ℕ) (log : Log)
      → node_does digest shows layer n k d cs node s log ≡ node_does digest shows layer n k d cs rest t log
  pub meets : (shows : List ℕ → Option Shape)
      → previous_node (previous_gap shows k) cs node ≡ previous_node (previous_gap shows k) cs rest
  pub smaller : (shows : List ℕ → Option Shape)
      → size_of_node (size_of_gap shows k) rest ≤ size_of_node (size_of_gap shows k) node

-- what is left of a node has no answer with keys of the grammar
abbrev pub IsUnpassed : ℕ → ℕ → List Change → Shape → LinkEdge → Log → DraftFault → Type 0
IsUnpassed k d cs node s log fault =
    (digest : List ℕ → List ℕ) (shows : List ℕ → Option Shape) (layer : List ℕ → ℕ) (n : ℕ)
    → IsRefused (node_does digest shows layer n k d cs node s log) fault

-- one pair more of a node was read, and no change touches it
pub record IsNextUntouched (k : ℕ) (cs : List Change) (old new : Reading) : Type 0 where
  pub pair : Pair
  pub next_is : old.rest ≡ MoreLinks (first_link old.rest) pair new.rest
  pub passed_is : new.passed ≡ old.passed ++ (first_link old.rest, pair) ∷ []
  pub start_is : new.start ≡ old.start
  pub untouched : IsUntouched k cs (first_link old.rest) pair.0

-- the next pair of a node was read, if there is one
pub record IsNextTouched (value : Option (List ℕ)) (old new : Reading) : Type 0 where
  pub last : Rows
  pub next_is : old.rest ≡ shape_at (first_link old.rest) value new
  pub passed_is : new.passed ≡ old.passed ++ last
  pub few : length last ≤ 1
  pub start_is : new.start ≡ old.start

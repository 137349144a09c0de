-- The edge as the code has it: the rows of each open layer from the top down, and below them one link that waits, or none.
use Rattle.std.specs.Prelude.{ℕ, zero, suc, Bool, true, false, List, [], ◌∷◌, Option}
use Rattle.spec.specs.NodeFormat.{Shape, LastLink, MoreLinks}
use Rattle.batch_laws.specs.Links.{Rows, LinkEdge, LinkClear, LinkWaiting, LinkOpened, Log, Step, link_edge, and_then, opening, under_rows, joined_row}

abbrev pub edge_of : List Rows → Option (List ℕ) → LinkEdge
edge_of [] rest = link_edge rest
edge_of (r ∷ rs) rest = LinkOpened r (edge_of rs rest)

-- a step so many layers below, where all above is opened first
abbrev pub within : (List ℕ → Option Shape) → ℕ → (LinkEdge → Log → Step LinkEdge) → LinkEdge → Log
    → Step LinkEdge
within shows zero f s log = f s log
within shows (suc d) f s log =
    and_then (opening shows s log) (λ o log1. under_rows o.0 (within shows d f o.1 log1))

-- what came below these rows, which stay
abbrev pub under : List Rows → Step LinkEdge → Step LinkEdge
under [] x = x
under (r ∷ rs) x = under_rows r (under rs x)

-- a node that comes to some rows, once its first link's part has come below them
abbrev pub joined : (List ℕ → List ℕ) → Rows → Shape → Step LinkEdge → Step LinkEdge
joined digest rows (LastLink l) x = under_rows rows x
joined digest rows (MoreLinks l e r) x = joined_row digest e rows r x

-- nodes that come to the rows below the first so many, each once its first link's part has come below it
abbrev pub around : (List ℕ → List ℕ) → ℕ → List Rows → List Shape → Step LinkEdge → Step LinkEdge
around digest b [] fs x = x
around digest zero (r ∷ rs) [] x = under_rows r (around digest zero rs [] x)
around digest zero (r ∷ rs) (f ∷ fs) x = joined digest r f (around digest zero rs fs x)
around digest (suc b) (r ∷ rs) fs x = under_rows r (around digest b rs fs x)

-- nothing stands there
abbrev pub is_clear : LinkEdge → Bool
is_clear LinkClear = true
is_clear (LinkWaiting c) = false
is_clear (LinkOpened rows s) = false

-- the first of these with a row, or how many there are where none has one
abbrev pub highest_of : List Rows → ℕ
highest_of [] = 0
highest_of ([] ∷ ls) = suc (highest_of ls)
highest_of ((x ∷ r) ∷ ls) = 0

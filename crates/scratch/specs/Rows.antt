-- Pairs beside the layers of their keys.
use Rattle.std.specs.Prelude.{◌≡◌, ℕ, List}
use Rattle.std.specs.List.{AllByRecursion}
use Rattle.spec.specs.Tree.{Pair}
use Rattle.cid.specs.CidRef.{bytes_of}
use Rattle.scratch.specs.declared.rows.Row.{Row}

abbrev pub pair_of : Row → Pair
pair_of r = (r.key.now, bytes_of r.value)

-- each row has the layer of its key
abbrev pub AreLayered : (List ℕ → ℕ) → List Row → Type 0
AreLayered layer rows = AllByRecursion (λ r. r.layer ≡ layer r.key.now) rows

-- no row has a node after it yet
abbrev pub HaveNothingBelow : List Row → Type 0
HaveNothingBelow rows = AllByRecursion (λ r. r.nodes_after ≡ 0) rows

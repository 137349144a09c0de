-- A node that is being written and has a pair.
use Rattle.std.specs.Prelude.{◌≡◌, ◌<◌, ℕ, List, [], true, length, Option}
use Rattle.spec.specs.NodeFormat.{are_keys_after}
use Rattle.node.specs.Contents.{Contents}
use Rattle.node.specs.Search.{gap_at}

-- it has a pair, its keys are of the grammar, and this link stands behind the last pair
pub record IsBegun (node : Contents) (behind : Option (List ℕ)) : Type 0 where
  pub some : 0 < length node.entries
  pub keys : are_keys_after [] node.entries ≡ true
  pub behind_is : behind ≡ gap_at (length node.entries) node.left node.entries

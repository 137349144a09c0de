-- Nodes that were read.
use Rattle.std.specs.Prelude.{◌≡◌, ◌<◌, ◌^◌, ℕ, List, length}
use Rattle.spec.specs.NodeFormat.{Shape, shape_bytes}
use Rattle.edit_laws.specs.Lawful.{Lawful}

-- a node of the grammar, and these are its bytes, which a machine can count
pub record IsNodeOf (bytes : List ℕ) (s : Shape) : Type 0 where
  pub spelled : bytes ≡ shape_bytes s
  pub lawful : Lawful s
  pub short : length bytes < 2 ^ 64

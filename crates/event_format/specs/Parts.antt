-- Parts of an operation's spelling.
use Rattle.std.specs.Prelude.{ℕ, List, [], ◌++◌, codes, Option, Some, None}
use Rattle.spec.specs.DagCbor.{Link, string, spelling}

-- how many fields it has
abbrev pub op_size : Option (List ℕ) → ℕ
op_size None = 3
op_size (Some c) = 4

-- the field prev, where there was a record
abbrev pub prev_bytes : Option (List ℕ) → List ℕ
prev_bytes None = []
prev_bytes (Some c) = string 3 (codes "prev") ++ spelling (Link c)

-- Whether a file has blocks.
use Rattle.std.specs.Prelude.{Bool, false, ℕ, List, Option, Some, None}
use Rattle.std.specs.Str.{bytes_eq}
use Rattle.spec.specs.Cid.{cid}
use Rattle.spec.specs.CarReading.{Section, block_with}

abbrev pub is_block : List ℕ → Option (List ℕ) → Bool
is_block b None = false
is_block b (Some given) = bytes_eq given b

-- the sections have this block under its CID
abbrev pub is_given : (List ℕ → List ℕ) → List Section → List ℕ → Bool
is_given digest ss b = is_block b (block_with (cid digest b) ss)

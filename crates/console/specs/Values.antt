-- The word of a record's CID in a line (a choice of this project).
use Rattle.std.specs.Prelude.{ℕ, List, ◌++◌, codes, Option, Some, None}
use Rattle.spec.specs.Cid.{text}

-- a space and the CID of a record, or `-`
abbrev pub value_words : Option (List ℕ) → List ℕ
value_words None = codes " -"
value_words (Some c) = codes " " ++ text c

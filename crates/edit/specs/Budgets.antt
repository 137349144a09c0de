-- How many nodes a batch may read.
use Rattle.std.specs.Prelude.{ℕ}

-- how often a source was asked so far, and how many more nodes may be read
abbrev pub Budget : Type 0
Budget = ℕ × ℕ

-- A part of what is written.
use Rattle.std.specs.Prelude.{◌≡◌, ℕ, ◌-◌, List, take, drop, length}

-- so many bytes from a place on; all that was taken, and how often it has failed
pub record Windowed : Type 0 where
  pub from : ℕ
  pub room : ℕ
  pub taken : List ℕ
  pub failures : ℕ

-- the bytes of the part
abbrev pub part_of : ℕ → ℕ → List ℕ → List ℕ
part_of from room bytes = take room (drop from bytes)

-- so many bytes are still to be passed over, and these are kept
pub record IsWindow (from room : ℕ) (taken : List ℕ) (left : ℕ) (part : List ℕ) : Type 0 where
  pub left_is : left ≡ from - length taken
  pub part_is : part ≡ part_of from room taken

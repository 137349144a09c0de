-- What a cursor stands for.
use Rattle.std.specs.Prelude.{ℕ, List}

-- the bytes that are left, and how many were read before them
pub record Source : Type 0 where
  pub left : List ℕ
  pub place : ℕ

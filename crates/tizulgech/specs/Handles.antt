-- What a call does to the repository that it is handed.
use Rattle.std.specs.Prelude.{◌≡◌, ℕ, Option, None}
use Rattle.owned_repo.specs.Owning.{Owned}

-- it stays as it is, and the number is 250 where there is none
pub record OnlyReads (code : ℕ) (old new : Option Owned) : Type 0 where
  pub unchanged : new ≡ old
  pub closed : old ≡ None → code ≡ 250

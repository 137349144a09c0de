-- How `explain` ends.
use Rattle.std.specs.Prelude.{◌≡◌, ◌≢◌, ◌⊎◌, ℕ, List, [], Option}
use Rattle.std.specs.Io.KnownBytes.{Appends, Keeps}
use Rattle.console.specs.Written.{AppendsBeginning}

-- With what there is to say of a name, with a writer's known contents before and after: at 0 there is
-- something, and it was written; at 1 there is nothing, as no fault has the name, and nothing was; at
-- any a beginning was.
pub record IsStatusOf (said : List ℕ) (old new : Option (List ℕ)) (status : ℕ) : Type 0 where
  pub one_of : (status ≡ 0) ⊎ ((status ≡ 1) ⊎ ((status ≡ 3) ⊎ (status ≡ 4)))
  pub done : status ≡ 0 → (said ≢ []) × Appends old new said
  pub unknown : status ≡ 1 → (said ≡ []) × Keeps old new
  pub beginning : AppendsBeginning old new said

-- What a core holds when it ends.
use Rattle.std.proofs.Common.{◌≡◌, ℕ, List, ap, Option}
use Rattle.std.specs.Prelude.{is_some}
use Rattle.spec.specs.States.{State}
use Rattle.kept.specs.Counts.{Keeping}
use Rattle.kept.specs.Leaving.{is_held}
use Rattle.repo.specs.Cores.{IsCore}
use Rattle.repo.specs.Readings.{state_block}
use Rattle.repo.proofs.Keeping.{core-block}

module _ (digest : List ℕ → List ℕ) (bits : ℕ) (s : State) (root : List ℕ) (commit : Option (List ℕ)) (k : Keeping) (is : IsCore digest bits s root commit k) (me : k.me ≡ s.me) where
  -- what is held is what the state has
  pub held : (c : List ℕ) → is_held k c ≡ is_some (state_block digest bits s c)
  held c = ap (λ (o : Option (List ℕ)). is_some o) (core-block digest bits s root commit k is c)

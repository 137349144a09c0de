-- What a write that waits, or none, is told.
use Rattle.std.proofs.Common.{◌≡◌, ℕ, subst}
use Rattle.std.specs.Prelude.{Option, Some, None}
use Rattle.spec.specs.Writes.{Write}
use Rattle.owned_repo.specs.Owning.{Owned, staged}
use Rattle.tizulgech.specs.Numbers.{IsStaged}

pub one_more : (code : ℕ) (w : Write) (given : Option Write) (o n : Owned) → Some w ≡ given → code ≡ 0 → n ≡ staged o w → IsStaged code given o n
one_more code w given o n e c h = subst (λ (given : Option Write). IsStaged code given o n) e (c, h)

pub no_write : (code : ℕ) (given : Option Write) (o n : Owned) → None ≡ given → code ≡ 252 → IsStaged code given o n
no_write code given o n e c = subst (λ (given : Option Write). IsStaged code given o n) e c

-- Tests joined by "and", "or" and "not", taken apart and put together.
use Rattle.std.proofs.Common.{◌≡◌, Bool, true, false, ◌&&◌, ◌||◌, not, T, refl, inl, inr}
use Rattle.std.specs.Prelude.{◌⊎◌}

pub both : (a b : Bool) → (a && b) ≡ true → (a ≡ true) × (b ≡ true)
both true b e = (refl, e)
both false b e = absurd cc

pub and : (a b : Bool) → a ≡ true → b ≡ true → (a && b) ≡ true
and true b p q = q
and false b p q = p

pub one_of : (a b : Bool) → (a || b) ≡ true → (a ≡ true) ⊎ (b ≡ true)
one_of true b h = inl refl
one_of false b h = inr h

pub or_left : (a b : Bool) → a ≡ true → (a || b) ≡ true
or_left true b h = refl
or_left false b h = absurd cc

pub or_right : (a b : Bool) → b ≡ true → (a || b) ≡ true
or_right true b h = refl
or_right false b h = h

-- what fails wherever the first test passes
pub below_false : (a b : Bool) → (a ≡ true → b ≡ false) → (a && b) ≡ false
below_false true b h = h refl
below_false false b h = refl

pub not_two : (a b : Bool) → not (a && b) ≡ true → a ≡ true → b ≡ false
not_two true false h p = refl
not_two true true h p = absurd cc
not_two false b h p = absurd cc

pub not_three : (a b c : Bool) → not (a && b && c) ≡ true → a ≡ true → b ≡ true → c ≡ false
not_three true true false h p q = refl
not_three true true true h p q = absurd cc
not_three true false c h p q = absurd cc
not_three false b c h p q = absurd cc

-- the first implies the second
pub implied : (a b : Bool) → (not a || b) ≡ true → a ≡ true → b ≡ true
implied true b h e = h
implied false b h e = absurd cc

pub implies : (a b : Bool) → (a ≡ true → b ≡ true) → (not a || b) ≡ true
implies true b h = h refl
implies false b h = refl

pub not_implied : (a b : Bool) → (not a || b) ≡ false → (a ≡ true) × (b ≡ false)
not_implied true b h = (refl, h)
not_implied false b h = absurd cc

pub from_T : (b : Bool) → T b → b ≡ true
from_T true h = refl
from_T false h = absurd h

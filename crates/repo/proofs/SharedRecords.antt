-- Shared writes of which each leaves a record.
use Rattle.std.proofs.Common.{◌≡◌, ℕ, true, List, [], ◌∷◌, map, refl, ap, Option}
use Rattle.std.specs.declared.option.Option.TheVariants.{Some}
use Rattle.std.specs.Prelude.{is_some}
use Rattle.std.specs.List.{AllByRecursion}
use Rattle.std.specs.declared.sync.Arc.{Arc}
use Rattle.block.specs.Bytes.{has_record, shared_record}
use Rattle.batches.specs.Write as Code

-- lists of which each member is there are the same where they are as options
pub without-some : {X : Type 0} (xs ys : List X) → map Some xs ≡ map Some ys → xs ≡ ys
without-some [] [] e = refl
without-some [] (y ∷ ys) e = absurd cc
without-some (x ∷ xs) [] e = absurd cc
without-some (x ∷ xs) (y ∷ ys) e = let h : x ≡ y = cc in let t = without-some xs ys cc in cc

-- writes of which each record is there
pub all-have : {A : Type 0} (ws : List (Arc (Code.Write A) A)) (rs : List (List ℕ)) → map shared_record ws ≡ map Some rs → AllByRecursion (λ w. has_record w ≡ true) ws
all-have [] rs e = tt
all-have (w ∷ ws) [] e = absurd cc
all-have (w ∷ ws) (r ∷ rs) e =
    let here : shared_record w ≡ Some r = cc in
    let left : map shared_record ws ≡ map Some rs = cc in
    (ap (λ (o : Option (List ℕ)). is_some o) here, all-have ws rs left)

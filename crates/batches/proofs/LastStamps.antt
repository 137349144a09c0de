-- The stamp of the last batch.
use Rattle.std.proofs.Common.{◌≡◌, ℕ, zero, suc, ◌-◌, List, [], ◌∷◌, length, map, Option, refl, sym, ap, ◌∙◌}
use Rattle.std.specs.Prelude.{option_map, slice_get}
use Rattle.std.specs.declared.option.Option.TheVariants.{Some}
use Rattle.std.proofs.lemmas.List.{length-map}
use Rattle.spec.specs.Stamps as stamps
use Rattle.spec.specs.Stamps.{last}
use Rattle.batches.specs.Values.{stamp_of, stamps_of}
use Rattle.batches.specs.declared.stamp.Stamp.{Stamp}

get-map : {X Y : Type 0} (f : X → Y) (xs : List X) (i : ℕ) → slice_get (map f xs) i ≡ option_map f (slice_get xs i)
get-map f [] i = refl
get-map f (x ∷ xs) zero = refl
get-map f (x ∷ xs) (suc i) = get-map f xs i

last-map : {X Y : Type 0} (f : X → Y) (xs : List X) → last (map f xs) ≡ option_map f (last xs)
last-map f xs = ap (λ n. slice_get (map f xs) (n - 1)) (length-map xs f) ∙ get-map f xs (length xs - 1)

pub some-stamp : {A : Type 0} (ss : List (Stamp A × ℕ)) (x : Stamp A × ℕ) → ◌≡◌ {A = Option (Stamp A × ℕ)} (Some x) (last ss)
    → ◌≡◌ {A = Option stamps.Stamp} (Some (stamp_of x.0)) (stamps.stamp_of (last (stamps_of ss)))
some-stamp ss x e =
    ap (λ o. stamps.stamp_of (option_map (λ s. (stamp_of s.0, s.1)) o)) e
    ∙ sym (ap stamps.stamp_of (last-map (λ s. (stamp_of s.0, s.1)) ss))

-- A part that is full is the part of all that begins with what was taken.
use Rattle.std.proofs.Common.{◌≡◌, ◌≤◌, ℕ, zero, suc, List, ◌++◌, take, drop, length, refl, sym, ap, ◌∙◌, arith}
use Rattle.std.proofs.lemmas.List.{drop-append-le, take-append-le, length-take, length-drop}
use Rattle.export.specs.Windows.{part_of}

enough : (n : ℕ) (ys : List ℕ) → length (take n ys) ≡ n → n ≤ length ys
enough n ys e = grind (arith, length-take)

within : (from n : ℕ) (xs : List ℕ) → suc n ≤ length (drop from xs) → from ≤ length xs
within from n xs e = grind (arith, length-drop)

same_part : (from room : ℕ) (xs rest : List ℕ) → length (part_of from room xs) ≡ room → part_of from room xs ≡ part_of from room (xs ++ rest)
same_part from zero xs rest e = refl
same_part from (suc n) xs rest e =
    let long : suc n ≤ length (drop from xs) = enough (suc n) (drop from xs) e in
    sym (ap (take (suc n)) (drop-append-le from xs rest (within from n xs long)) ∙ take-append-le (suc n) (drop from xs) rest long)

pub full_part : (from room : ℕ) (part xs rest : List ℕ) → part ≡ part_of from room xs → length part ≡ room → part ≡ part_of from room (xs ++ rest)
full_part from room part xs rest is full = is ∙ same_part from room xs rest (ap length (sym is) ∙ full)

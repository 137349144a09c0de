-- Adding to a text piece by piece: what it is, and what is left to add, make the whole.
use Rattle.std.proofs.Common.{◌≡◌, ℕ, ◌+◌, ◌<◌, ◌≤◌, List, ◌++◌, length, drop, get_or, sym, ap, ◌∙◌, append_assoc, add-one}
use Rattle.std.specs.List.{flat_map}
use Rattle.std.proofs.lemmas.List.{append-nil, at_drop_all}
use Rattle.std.proofs.Math.Seq.{drop-cons}

module _ {X : Type 0} (f : X → List ℕ) (xs : List X) (whole t : List ℕ) (i : ℕ) where
  abbrev pub Left : List ℕ → ℕ → Type 0
  Left u j = u ++ flat_map f (drop j xs) ≡ whole

  pub pushed : (u : List ℕ) (d : X) → Left t i → i < length xs → u ≡ t ++ f (get_or xs i d) → Left u (i + 1)
  pushed u d left lt e =
      ap (λ z. z ++ flat_map f (drop (i + 1) xs)) e
      ∙ append_assoc t (f (get_or xs i d)) (flat_map f (drop (i + 1) xs))
      ∙ ap (λ j. t ++ (f (get_or xs i d) ++ flat_map f (drop j xs))) (add-one i)
      ∙ ap (λ ys. t ++ flat_map f ys) (sym (drop-cons xs i d lt))
      ∙ left

  pub pushed-all : Left t i → length xs ≤ i → t ≡ whole
  pushed-all left le = sym (append-nil t) ∙ ap (λ z. t ++ z) (sym (at_drop_all (flat_map f) xs i le)) ∙ left

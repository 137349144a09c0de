-- Elements that are moved one by one from the front of one list to the end of another.
use Rattle.std.proofs.Common.{◌≡◌, ℕ, suc, ◌+◌, ◌-◌, ◌<◌, List, [], ◌∷◌, ◌++◌, map, take, drop, length, slice_index_or, sym, ap, ◌∙◌, append_assoc, arith}
use Rattle.std.proofs.lemmas.List.{map_push, drop_more}
use Rattle.scratch.specs.Cut.{Nodes}
use Rattle.scratch.specs.Level.{part_from, parts_from, tops_left, under_left}

module _ {X : Type 0} (f : X → List ℕ) (count : ℕ) where
  pub begun : (nodes xs : List X) → map f nodes ++ take (count - 0) (map f xs) ≡ map f nodes ++ take count (map f xs)
  begun nodes xs = let all : count - 0 ≡ count = omega arith in ap (λ k. map f nodes ++ take k (map f xs)) all

  pub begun-left : (xs : List X) → drop (count - 0) (map f xs) ≡ drop count (map f xs)
  begun-left xs = let all : count - 0 ≡ count = omega arith in ap (λ k. drop k (map f xs)) all

  module _ (moved : ℕ) (less : moved < count) (xs rest : List X) (x : X) (taken : xs ≡ x ∷ rest) where
    one_less : count - moved ≡ suc (count - (moved + 1))
    one_less = omega (arith, less)

    pub moved-on : (nodes after : List X) (all : Nodes) → after ≡ nodes ++ x ∷ [] → map f nodes ++ take (count - moved) (map f xs) ≡ all → map f after ++ take (count - (moved + 1)) (map f rest) ≡ all
    moved-on nodes after all more are =
        ap (λ (ys : List X). map f ys ++ take (count - (moved + 1)) (map f rest)) more
        ∙ ap (λ (ys : Nodes). ys ++ take (count - (moved + 1)) (map f rest)) (map_push f nodes x)
        ∙ append_assoc (map f nodes) (f x ∷ []) _
        ∙ sym (ap (λ k. map f nodes ++ take k (f x ∷ map f rest)) one_less)
        ∙ sym (ap (λ (ys : List X). map f nodes ++ take (count - moved) (map f ys)) taken) ∙ are

    pub moved-left : (all : Nodes) → drop (count - moved) (map f xs) ≡ all → drop (count - (moved + 1)) (map f rest) ≡ all
    moved-left all are =
        sym (ap (λ k. drop k (f x ∷ map f rest)) one_less) ∙ sym (ap (λ (ys : List X). drop (count - moved) (map f ys)) taken) ∙ are

-- ---- part by part

module _ {X R : Type 0} (f : X → List ℕ) (count : R → ℕ) where
  part_on : (n : ℕ) (ns : List ℕ) (before after tops tops' under under' all : Nodes) → before ++ parts_from (n ∷ ns) tops under ≡ all → after ≡ before ++ part_from n tops under
      → tops' ≡ tops_left n tops → under' ≡ under_left n under → after ++ parts_from ns tops' under' ≡ all
  part_on n ns before after tops tops' under under' all are more top_left left =
      ap (λ (xs : Nodes). xs ++ parts_from ns tops' under') more ∙ append_assoc before (part_from n tops under) _
      ∙ ap (λ (xs : Nodes). before ++ (part_from n tops under ++ parts_from ns xs under')) top_left
      ∙ ap (λ (xs : Nodes). before ++ (part_from n tops under ++ parts_from ns (tops_left n tops) xs)) left ∙ are

  pub first_part : (first : ℕ) (rows : List R) (none nodes : List X) (all_tops tops tops' : Nodes) (all_under under under' : List X) → none ≡ [] → tops ≡ all_tops → under ≡ all_under
      → map f nodes ≡ map f none ++ part_from first tops (map f under) → tops' ≡ tops_left first tops → map f under' ≡ under_left first (map f under)
      → map f nodes ++ parts_from (map count rows) tops' (map f under') ≡ parts_from (first ∷ map count rows) all_tops (map f all_under)
  first_part first rows none nodes all_tops tops tops' all_under under under' empty all_of_tops all more top_left left =
      part_on first (map count rows) (map f none) (map f nodes) tops tops' (map f under) (map f under') (parts_from (first ∷ map count rows) all_tops (map f all_under))
      (ap (λ xs. map f xs ++ parts_from (first ∷ map count rows) tops (map f under)) empty
      ∙ ap (λ (xs : Nodes). parts_from (first ∷ map count rows) xs (map f under)) all_of_tops ∙ ap (λ xs. parts_from (first ∷ map count rows) all_tops (map f xs)) all)
      more top_left left

  pub next_part : (rows : List R) (i : ℕ) (row : R) (before after : List X) (tops tops' : Nodes) (under under' : List X) (all : Nodes) → i < length rows → row ≡ slice_index_or rows i row
      → map f before ++ parts_from (map count (drop i rows)) tops (map f under) ≡ all → map f after ≡ map f before ++ part_from (count row) tops (map f under)
      → tops' ≡ tops_left (count row) tops → map f under' ≡ under_left (count row) (map f under)
      → map f after ++ parts_from (map count (drop (i + 1) rows)) tops' (map f under') ≡ all
  next_part rows i row before after tops tops' under under' all within is are more top_left left =
      let next : drop i rows ≡ row ∷ drop (i + 1) rows = drop_more rows i row within ∙ ap (λ r. r ∷ drop (i + 1) rows) (sym is) in
      part_on (count row) (map count (drop (i + 1) rows)) (map f before) (map f after) tops tops' (map f under) (map f under') all
      (sym (ap (λ rs. map f before ++ parts_from (map count rs) tops (map f under)) next) ∙ are) more top_left left

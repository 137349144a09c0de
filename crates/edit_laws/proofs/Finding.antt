-- A look-up along one path, in a node of a given layer.
use Rattle.std.proofs.Common.{◌≡◌, ℕ, zero, suc, ◌<◌, Bool, true, false, nat_eq, List, [], ◌∷◌, ◌++◌, refl, arith, Option}
use Rattle.std.specs.declared.cmp.Ordering.TheVariants.{Equal}
use Rattle.std.proofs.lemmas.Bool.{eqb-false}
use Rattle.edit_laws.specs.Order.{order}
use Rattle.spec.specs.Tree.{Pair, Part, Sub, Groups, LastGroup, MoreGroups, cut, node_of, below, tree}
use Rattle.edit_laws.specs.TreeEdit.{with_first, find, answer}
use Rattle.edit_laws.specs.Pairs.{Each, IsBefore, IsAfter}
use Rattle.edit_laws.proofs.Around.{Here, absent, present, value_of}
use Rattle.edit_laws.proofs.Cut.{last_group, first_group, first-with_first}
use Rattle.edit_laws.proofs.Groups.{InGroups, cut-in, last-in, first-in, last-inner, first-inner}
use Rattle.edit_laws.proofs.Orders.{order-same}
use Rattle.edit_laws.proofs.Places.{IsOutside, locate-outside, locate-here}
use Rattle.spec.proofs.TreeLaws.{IsLower, cut-inner}

answer-after : (key : List ℕ) (d : Option (List ℕ)) (q : Part) (part : List Pair → Part) (g : Groups)
    → InGroups (IsAfter key) g
    → answer key d (with_first q (node_of part g)) ≡ d
answer-after key d q part (LastGroup g) h = refl
answer-after key d q part (MoreGroups g e r) h = rw h.1

-- what a list taken apart at a key of layer n or below has
pub record Lows (layer : List ℕ → ℕ) (n : ℕ) (key : List ℕ) (xs mid ys : List Pair) : Type 0 where
  pub front_low : Each (IsLower layer n) xs
  pub mid_here : Here key mid
  pub mid_low : Each (IsLower layer n) mid
  pub back_low : Each (IsLower layer n) ys
  pub front_before : Each (IsBefore key) xs
  pub back_after : Each (IsAfter key) ys

pub lows-down : (layer : List ℕ → ℕ) (n : ℕ) (key : List ℕ) (xs mid ys : List Pair)
    → Lows layer (suc n) key xs mid ys → Each (IsLower layer n) mid
    → Lows layer n key (last_group (cut layer n xs)) mid (first_group (cut layer n ys))
lows-down layer n key xs mid ys c m = record {
  front_low = last-inner (IsLower layer n) (cut layer n xs) (cut-inner layer n xs c.front_low);
  mid_here = c.mid_here;
  mid_low = m;
  back_low = first-inner (IsLower layer n) (cut layer n ys) (cut-inner layer n ys c.back_low);
  front_before = last-in (IsBefore key) (cut layer n xs) (cut-in (IsBefore key) layer n xs c.front_before);
  back_after = first-in (IsAfter key) (cut layer n ys) (cut-in (IsAfter key) layer n ys c.back_after);
}

pub here-outside : (layer : List ℕ → ℕ) (n : ℕ) (key : List ℕ) (mid : List Pair) → Here key mid
    → nat_eq (layer key) n ≡ false → Each (IsOutside layer n) mid
here-outside layer n key [] absent h = tt
here-outside layer n key (_ ∷ _) (present e q) h = (rw q h, tt)

pub outside-low : (layer : List ℕ → ℕ) (n : ℕ) (mid : List Pair) → Each (IsLower layer (suc n)) mid
    → Each (IsOutside layer n) mid → Each (IsLower layer n) mid
outside-low layer n [] h o = tt
outside-low layer n (e ∷ mid) h o = (
  let l : layer e.0 < suc n = h.0 in let ne = eqb-false (layer e.0) n o.0 in omega arith,
  outside-low layer n mid h.1 o.1,
)

-- ---- the look-up

abbrev pub FindAt : (List ℕ → ℕ) → List ℕ → ℕ → Type 0
FindAt layer key n = (xs mid ys : List Pair) → Lows layer n key xs mid ys
    → find n key (below layer n (xs ++ (mid ++ ys))) ≡ value_of mid

find-outside : (layer : List ℕ → ℕ) (key : List ℕ) (n : ℕ) → FindAt layer key n → (xs mid ys : List Pair)
    → Lows layer (suc n) key xs mid ys → Each (IsOutside layer n) mid
    → find (suc n) key (Sub (tree layer n (xs ++ (mid ++ ys)))) ≡ value_of mid
find-outside layer key n ih xs mid ys c o =
    let part = below layer n in
    let us = last_group (cut layer n xs) in
    let vs = first_group (cut layer n ys) in
    let i = ih us mid vs (lows-down layer n key xs mid ys c (outside-low layer n mid c.mid_low o)) in
    rw (
      locate-outside layer n key xs mid ys o c.front_before c.back_after,
      first-with_first,
      i,
      answer-after key (value_of mid) (part (us ++ (mid ++ vs))) part (cut layer n ys)
          (cut-in (IsAfter key) layer n ys c.back_after),
    )

find-cases : (layer : List ℕ → ℕ) (key : List ℕ) (n : ℕ) → FindAt layer key n → (b : Bool)
    → nat_eq (layer key) n ≡ b → (xs mid ys : List Pair) → Lows layer (suc n) key xs mid ys → Here key mid
    → find (suc n) key (Sub (tree layer n (xs ++ (mid ++ ys)))) ≡ value_of mid
find-cases layer key n ih b h xs [] ys c absent = find-outside layer key n ih xs [] ys c tt
find-cases layer key n ih true h xs (_ ∷ _) ys c (present e q) =
    let o : order e.0 key ≡ Equal = rw q (order-same key) in
    rw (locate-here layer n key xs e ys (rw q h) o c.front_before, o)
find-cases layer key n ih false h xs (_ ∷ _) ys c (present e q) =
    find-outside layer key n ih xs (e ∷ []) ys c (rw q h, tt)

find-sub : (layer : List ℕ → ℕ) (key : List ℕ) (n : ℕ) (xs mid ys es : List Pair) → es ≡ xs ++ (mid ++ ys)
    → Here key mid → find (suc n) key (Sub (tree layer n (xs ++ (mid ++ ys)))) ≡ value_of mid
    → find (suc n) key (below layer (suc n) (xs ++ (mid ++ ys))) ≡ value_of mid
find-sub layer key n (x ∷ xs) mid ys es e m h = h
find-sub layer key n [] [] (y ∷ ys) es e m h = h
find-sub layer key n [] [] [] es e m h = refl
find-sub layer key n [] (_ ∷ _) ys es e (present p q) h = h

pub find-below : (layer : List ℕ → ℕ) (key : List ℕ) (n : ℕ) → FindAt layer key n
find-below layer key zero xs [] ys c = refl
find-below layer key zero xs (e ∷ mid) ys c = let l : layer e.0 < zero = c.mid_low.0 in absurd (omega arith)
find-below layer key (suc n) xs mid ys c =
    find-sub layer key n xs mid ys _ refl c.mid_here
    (find-cases layer key n (find-below layer key n) (nat_eq (layer key) n) refl xs mid ys c c.mid_here)

pub find-tree : (layer : List ℕ → ℕ) (key : List ℕ) (n : ℕ) (xs mid ys : List Pair) → Lows layer (suc n) key xs mid ys
    → find (suc n) key (Sub (tree layer n (xs ++ (mid ++ ys)))) ≡ value_of mid
find-tree layer key n xs mid ys c =
    find-cases layer key n (find-below layer key n) (nat_eq (layer key) n) refl xs mid ys c c.mid_here

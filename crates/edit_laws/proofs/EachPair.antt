-- What holds of each pair of a list, and lists in ascending order.
use Rattle.std.proofs.Common.{List, [], ◌∷◌, ◌++◌}
use Rattle.spec.specs.Tree.{Pair}
use Rattle.edit_laws.specs.Pairs.{Each, IsBefore, IsAfter, Ascending}
use Rattle.edit_laws.proofs.Orders.{turned}

-- what stands before and after a pair of an ascending list
pub record Halves (xs : List Pair) (e : Pair) (ys : List Pair) : Type 0 where
  pub before : Each (IsBefore e.0) xs
  pub after : Each (IsAfter e.0) ys
  pub front : Ascending xs
  pub back : Ascending ys

pub each-parts : (P : Pair → Type 0) (xs ys : List Pair) → Each P (xs ++ ys) → Each P xs × Each P ys
each-parts P [] ys h = (tt, h)
each-parts P (x ∷ xs) ys h = let i = each-parts P xs ys h.1 in ((h.0, i.0), i.1)

pub each-left : (P : Pair → Type 0) (xs ys : List Pair) → Each P (xs ++ ys) → Each P xs
each-left P xs ys h = (each-parts P xs ys h).0

pub each-right : (P : Pair → Type 0) (xs ys : List Pair) → Each P (xs ++ ys) → Each P ys
each-right P xs ys h = (each-parts P xs ys h).1

pub each-both : (P : Pair → Type 0) (xs ys : List Pair) → Each P xs → Each P ys → Each P (xs ++ ys)
each-both P [] ys h k = k
each-both P (x ∷ xs) ys h k = (h.0, each-both P xs ys h.1 k)

pub each-map : (P Q : Pair → Type 0) (es : List Pair) → ((e : Pair) → P e → Q e) → Each P es → Each Q es
each-map P Q [] f h = tt
each-map P Q (e ∷ es) f h = (f e h.0, each-map P Q es f h.1)

pub halves : (xs : List Pair) (e : Pair) (ys : List Pair) → Ascending (xs ++ e ∷ ys) → Halves xs e ys
halves [] e ys h = record { before = tt; after = h.0; front = tt; back = h.1 }
halves (x ∷ xs) e ys h =
    let i = halves xs e ys h.1 in
    let a = each-parts (IsAfter x.0) xs (e ∷ ys) h.0 in
    record { before = (turned e.0 x.0 a.1.0, i.before); after = i.after; front = (a.0, i.front); back = i.back }

pub ascending-parts : (xs ys : List Pair) → Ascending (xs ++ ys) → Ascending xs × Ascending ys
ascending-parts [] ys h = (tt, h)
ascending-parts (x ∷ xs) ys h = let i = ascending-parts xs ys h.1 in ((each-left (IsAfter x.0) xs ys h.0, i.0), i.1)

-- Numbers for changes, summed up.
use Rattle.std.proofs.Common.{ℕ, ◌+◌, ◌*◌, ◌≤◌, List, [], ◌∷◌, ◌++◌, length, ◌≡◌, arith, length-append, Option}
use Rattle.std.specs.declared.option.Option.TheVariants.{Some, None}
use Rattle.std.specs.declared.cmp.Ordering.{Ordering}
use Rattle.std.specs.declared.cmp.Ordering.TheVariants.{Less, Equal, Greater}
use Rattle.std.proofs.Math.Nat.{suc-mul}
use Rattle.spec.specs.Tree.{Node}
use Rattle.edit_laws.specs.Order.{order}
use Rattle.batch_laws.specs.Batch.{Change, if_less, if_same, if_greater, before, at_key, after}
use Rattle.batch_laws.specs.Counts.{sum_over}

-- of the change at a key
abbrev pub at_sum : (Option (List ℕ) → ℕ) → Option (Option (List ℕ)) → ℕ
at_sum f None = 0
at_sum f (Some v) = f v

split-case : (f : Option (List ℕ) → ℕ) (c : Change) (bs ds : List Change) (a : Option (Option (List ℕ))) (k : ℕ)
    (o : Ordering) → sum_over f bs + (at_sum f a + sum_over f ds) ≤ k
    → sum_over f (if_less o c bs) + (at_sum f (if_same o c a) + sum_over f (if_greater o c ds)) ≤ f c.1 + k
split-case f c bs ds a k Less h = omega arith
split-case f c bs ds a k Equal h = omega arith
split-case f c bs ds a k Greater h = omega arith

-- no change stands on two sides of a key
pub sum-split : (f : Option (List ℕ) → ℕ) (key : List ℕ) (cs : List Change)
    → sum_over f (before key cs) + (at_sum f (at_key key cs) + sum_over f (after key cs)) ≤ sum_over f cs
sum-split f key [] = omega arith
sum-split f key (c ∷ cs) =
    split-case f c (before key cs) (after key cs) (at_key key cs) (sum_over f cs) (order c.0 key) (sum-split f key cs)

-- where each number is greater by one
pub sum-all : (f g : Option (List ℕ) → ℕ) (cs : List Change) → ((v : Option (List ℕ)) → f v ≤ g v)
    → sum_over f cs ≤ sum_over g cs
sum-all f g [] h = omega arith
sum-all f g (c ∷ cs) h = let i = sum-all f g cs h in let j = h c.1 in omega arith

pub sum-same : (c : ℕ) (cs : List Change) → sum_over (λ v. c) cs ≡ length cs * c
sum-same c [] = omega arith
sum-same c (x ∷ cs) = let i = sum-same c cs in let m = suc-mul (length cs) c in omega arith

pub length-three : (xs ys zs : List Node) → length (xs ++ (ys ++ zs)) ≡ length xs + length ys + length zs
length-three xs ys zs =
    let a = length-append xs (ys ++ zs) in let b = length-append ys zs in omega arith

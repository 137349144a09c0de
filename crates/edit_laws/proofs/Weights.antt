-- Numbers over all nodes: of two lists, and of a node that is put together.
use Rattle.std.proofs.Common.{◌≡◌, ℕ, ◌+◌, List, [], ◌∷◌, ◌++◌, refl, arith}
use Rattle.spec.specs.Tree.{Pair, Node, Part, Last, More, Nothing, Sub}
use Rattle.edit_laws.specs.TreeEdit.{onto, close}
use Rattle.edit_laws.specs.Trace.{weight, weight_under, total, made_close}

pub total-append : (w : Node → ℕ) (xs ys : List Node) → total w (xs ++ ys) ≡ total w xs + total w ys
total-append w [] ys = omega arith
total-append w (x ∷ xs) ys = let i = total-append w xs ys in omega arith

-- over what stands before a key
abbrev pub weight_before : (Node → ℕ) → List (Part × Pair) → ℕ
weight_before w [] = 0
weight_before w (x ∷ xs) = weight w x.0 + weight_before w xs

pub weight-onto : (w : Node → ℕ) (ls : List (Part × Pair)) (m : Node)
    → weight_under w (onto ls m) ≡ weight_before w ls + weight_under w m
weight-onto w [] m = omega arith
weight-onto w (x ∷ xs) m = let i = weight-onto w xs m in omega arith

pub weight-close : (w : Node → ℕ) (m : Node) → weight w (close m) ≡ total w (made_close m) + weight_under w m
weight-close w (Last Nothing) = refl
weight-close w (Last (Sub m)) = omega arith
weight-close w (More p e r) = omega arith

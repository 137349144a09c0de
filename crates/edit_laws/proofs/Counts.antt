-- How many nodes a look-up reads.
use Rattle.std.proofs.Common.{ℕ, zero, suc, ◌≤◌, List, [], length, arith}
use Rattle.std.specs.declared.cmp.Ordering.{Ordering}
use Rattle.std.specs.declared.cmp.Ordering.TheVariants.{Less, Equal, Greater}
use Rattle.edit_laws.specs.Order.{order, if_equal}
use Rattle.spec.specs.Tree.{Node, Part, Last, More, Nothing, Sub}
use Rattle.edit_laws.specs.TreeEdit.{first, locate}
use Rattle.edit_laws.specs.Trace.{find_path, beside}

if_equal-most : (o : Ordering) (n : ℕ) (ms : List Node) → length ms ≤ n → length (if_equal o [] ms) ≤ n
if_equal-most Less n ms h = h
if_equal-most Equal n ms h = omega arith
if_equal-most Greater n ms h = h

beside-most : (key : List ℕ) (h : Node) (n : ℕ) (ms : List Node) → length ms ≤ n
    → length (beside key h (λ p q. []) ms) ≤ n
beside-most key (Last p) n ms h = h
beside-most key (More p e r) n ms h = if_equal-most (order e.0 key) n ms h

pub find_path-most : (n : ℕ) (key : List ℕ) (p : Part) → length (find_path n key p) ≤ n
find_path-most zero key p = omega arith
find_path-most (suc n) key Nothing = omega arith
find_path-most (suc n) key (Sub m) =
    let h = (locate key m).here in
    let i = beside-most key h n (find_path n key (first h)) (find_path-most n key (first h)) in
    omega arith

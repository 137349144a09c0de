-- What is read in a tree of n layers is the same for each bound from n on.
use Rattle.std.proofs.Common.{◌≡◌, ℕ, zero, suc, ◌≤◌, List, [], ◌∷◌, refl, ap, arith}
use Rattle.spec.specs.Tree.{Part, Last, More, Nothing, Sub}
use Rattle.edit_laws.specs.TreeEdit.{first, locate, find, answer}
use Rattle.edit_laws.specs.Trace.{beside, find_path, last_part, merge_pairs, prune_path}
use Rattle.edit_laws.proofs.Within.{IsWithin, within-rest, within-last}

pub find-enough : (n m : ℕ) (key : List ℕ) (p : Part) → n ≤ m → IsWithin n p → find m key p ≡ find n key p
find-enough zero zero key Nothing l w = refl
find-enough zero (suc m) key Nothing l w = refl
find-enough zero m key (Sub k) l w = absurd w
find-enough (suc n) zero key p l w = absurd (omega arith)
find-enough (suc n) (suc m) key Nothing l w = refl
find-enough (suc n) (suc m) key (Sub k) l w =
    let h = (locate key k).here in
    ap (λ x. answer key x h) (find-enough n m key (first h) (omega arith) (within-rest n key k w))

pub find_path-enough : (n m : ℕ) (key : List ℕ) (p : Part) → n ≤ m → IsWithin n p
    → find_path m key p ≡ find_path n key p
find_path-enough zero zero key Nothing l w = refl
find_path-enough zero (suc m) key Nothing l w = refl
find_path-enough zero m key (Sub k) l w = absurd w
find_path-enough (suc n) zero key p l w = absurd (omega arith)
find_path-enough (suc n) (suc m) key Nothing l w = refl
find_path-enough (suc n) (suc m) key (Sub k) l w =
    let h = (locate key k).here in
    ap (λ x. k ∷ beside key h (λ p q. []) x) (find_path-enough n m key (first h) (omega arith) (within-rest n key k w))

pub merge_pairs-enough : (n m : ℕ) (p q : Part) → n ≤ m → IsWithin n p → merge_pairs m p q ≡ merge_pairs n p q
merge_pairs-enough zero zero Nothing q l w = refl
merge_pairs-enough zero (suc m) Nothing q l w = refl
merge_pairs-enough zero m (Sub k) q l w = absurd w
merge_pairs-enough (suc n) zero p q l w = absurd (omega arith)
merge_pairs-enough (suc n) (suc m) Nothing q l w = refl
merge_pairs-enough (suc n) (suc m) (Sub k) Nothing l w = refl
merge_pairs-enough (suc n) (suc m) (Sub k) (Sub j) l w =
    ap (λ x. (k, j) ∷ x) (merge_pairs-enough n m (last_part k) (first j) (omega arith) (within-last n k w))

pub prune_path-enough : (n m : ℕ) (p : Part) → n ≤ m → IsWithin (suc n) p → prune_path m p ≡ prune_path n p
prune_path-enough n m Nothing l w = refl
prune_path-enough zero zero (Sub k) l w = refl
prune_path-enough zero (suc m) (Sub (Last Nothing)) l w = refl
prune_path-enough zero (suc m) (Sub (Last (Sub k))) l w = absurd w
prune_path-enough zero (suc m) (Sub (More p e r)) l w = refl
prune_path-enough (suc n) zero (Sub k) l w = absurd (omega arith)
prune_path-enough (suc n) (suc m) (Sub (Last p)) l w = ap (λ x. Last p ∷ x) (prune_path-enough n m p (omega arith) w)
prune_path-enough (suc n) (suc m) (Sub (More p e r)) l w = refl

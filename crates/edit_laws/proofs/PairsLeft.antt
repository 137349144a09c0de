-- The pairs that a delete leaves are those of a tree.
use Rattle.std.proofs.Common.{◌≡◌, ℕ, suc, ◌≤◌, Bool, true, false, cond, not, List, [], ◌∷◌, length, T, sym, subst, arith}
use Rattle.std.specs.List.{AllByRecursion}
use Rattle.std.specs.Str.{bytes_eq}
use Rattle.std.specs.Ordering.{nat_cmp}
use Rattle.std.specs.Cmp.Lexicographic.{slice_cmp}
use Rattle.std.specs.FinMap.Entries.{where_key}
use Rattle.spec.specs.Cid.{is_own_cid}
use Rattle.spec.specs.Tree.{Pair}
use Rattle.spec.specs.NodeFormat.{is_key}
use Rattle.spec.specs.Blocks.{ArePairs}
use Rattle.spec.specs.Writes.{Delete, without_key}
use Rattle.spec.proofs.Bools.{from_T}
use Rattle.spec.proofs.WriteLaws.{is_sorted-after_write}

all-where : (P : Pair → Type 0) (p : List ℕ → Bool) (es : List Pair) → AllByRecursion P es
    → AllByRecursion P (where_key (slice_cmp nat_cmp) p es)
all-where P p [] h = tt
all-where P p (e ∷ es) h =
    let rest = all-where P p es h.1 in
    elim (p e.0) as (λ b. AllByRecursion P (cond b (e ∷ where_key (slice_cmp nat_cmp) p es)
    (where_key (slice_cmp nat_cmp) p es))) [ true ↦ (h.0, rest) | false ↦ rest ]

fewer-where : (p : List ℕ → Bool) (es : List Pair) → length (where_key (slice_cmp nat_cmp) p es) ≤ length es
fewer-where p [] = omega arith
fewer-where p (e ∷ es) =
    let rest = fewer-where p es in
    elim (p e.0) as (λ b. length (cond b (e ∷ where_key (slice_cmp nat_cmp) p es)
    (where_key (slice_cmp nat_cmp) p es)) ≤ suc (length es)) [ true ↦ omega arith | false ↦ omega arith ]

pub pairs-without : (key : List ℕ) (es : List Pair) → ArePairs es → ArePairs (without_key es key)
pairs-without key es are =
    let left = λ (k : List ℕ). not (bytes_eq key k) in
    let n = fewer-where left es in
    let m = are.count in
    record {
      sorted = from_T _ (is_sorted-after_write es (Delete key) (subst T (sym are.sorted) tt));
      keys = all-where (λ e. is_key e.0 ≡ true) left es are.keys;
      values = all-where (λ e. is_own_cid e.1 ≡ true) left es are.values;
      count = omega arith;
    }

-- The numbers of a set, one after the other.
use mathlib.Core.Bool.{true≢false}
use Rattle.std.proofs.Common.{◌≡◌, ◌<◌, ◌≤◌, ◌+◌, ℕ, sym, ap, ◌∙◌, nat_eq, Bool, true, false, arith, ⊎_elim}
use Rattle.std.proofs.lemmas.Bool.{cases_lt, cases_order}
use Rattle.std.proofs.lemmas.Bool.Decides.{nat_tests}
use Rattle.std.specs.Ordering.{nat_cmp}
use Rattle.std.specs.FinSet as set
use Rattle.store.specs.Cores.{IsNextFrom, HasNoneFrom}

module _ (P : ℕ → Bool) (s : set.FinSet nat_cmp) (from : ℕ) (before : (n : ℕ) → n < from → set.contains s n ≡ true → P n ≡ true) where
  -- what holds of the numbers so far and of the next one holds of those up to it
  pub next_had : (next : ℕ) → IsNextFrom s from next → P next ≡ true → (n : ℕ) → n < next + 1 → set.contains s n ≡ true → P n ≡ true
  next_had next is own n less here =
      ⊎_elim (λ lt. before n lt here)
      (λ le. ⊎_elim (λ same. ap P same ∙ own)
      (λ apart. ⊎_elim (λ lt. absurd (true≢false (sym here ∙ is.between n le lt))) (λ gt. absurd (omega (arith, less, gt))) apart)
      (cases_order n next))
      (cases_lt n from)

  -- where no number comes next, it holds of all
  pub all_had : HasNoneFrom s from → (n : ℕ) → set.contains s n ≡ true → P n ≡ true
  all_had none n here = ⊎_elim (λ lt. before n lt here) (λ le. absurd (true≢false (sym here ∙ none n le))) (cases_lt n from)

pub next_small : (n : ℕ) → n < 1024 → n + 1 ≤ 1024
next_small n less = omega (arith, less)

pub some_left : (n : ℕ) (empty : Bool) → empty ≡ nat_eq n 0 → empty ≡ false → 0 < n
some_left n empty is not_so =
    let some : nat_eq n 0 ≡ false = sym is ∙ not_so in
    grind (arith, nat_tests)

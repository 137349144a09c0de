-- Sums over what the passes know, and counts of accounts.
use Rattle.std.proofs.Common.{◌≡◌, ◌≢◌, ℕ, zero, suc, ◌+◌, ◌<◌, ◌≤◌, Bool, true, false, cond, List, [], ◌∷◌, length, set, sym, refl, ap, arith}
use Rattle.std.specs.Prelude.{sum_by, ◌==◌, slice_index_or}
use Rattle.std.proofs.lemmas.Bool.Decides.{nat_tests}
use Rattle.std.proofs.lemmas.List.Sums.{sum_by-cons}
use mathlib.Core.Option.{some, some-injective, some-ne-none}
use lib.ListN.{get_elem?}
use Rattle.notices.specs.declared.notice.Notice.{Notice}
use Rattle.notices.specs.declared.rule.Account.{Account}
use Rattle.notices.specs.declared.rule.View.{View}
use Rattle.notices.specs.Rule.{account, sender, count_of, accounts_of, one_below}

-- sums over what the passes know
pub total_set : (f : View → ℕ) (views : List View) (pass : ℕ) (v w : View) → get_elem? views pass ≡ some v → sum_by f (set views pass w) + f v ≡ sum_by f views + f w
total_set f [] pass v w e = absurd (some-ne-none v (sym e))
total_set f (x ∷ xs) zero v w e = omega (arith, sum_by-cons f w xs, sum_by-cons f x xs, ap f (some-injective x v e))
total_set f (x ∷ xs) (suc pass) v w e = omega (arith, sum_by-cons f x (set xs pass w), sum_by-cons f x xs, total_set f xs pass v w e)

pub one_at : (f : View → ℕ) (views : List View) (i : ℕ) (v : View) → get_elem? views i ≡ some v → f v ≤ sum_by f views
one_at f [] i v e = absurd (some-ne-none v (sym e))
one_at f (x ∷ xs) zero v e = omega (arith, sum_by-cons f x xs, ap f (some-injective x v e))
one_at f (x ∷ xs) (suc i) v e = omega (arith, sum_by-cons f x xs, one_at f xs i v e)

pub two_at : (f : View → ℕ) (views : List View) (i j : ℕ) (v u : View) → i ≢ j → get_elem? views i ≡ some v → get_elem? views j ≡ some u → f v + f u ≤ sum_by f views
two_at f [] i j v u n e d = absurd (some-ne-none v (sym e))
two_at f (x ∷ xs) zero zero v u n e d = absurd (n refl)
two_at f (x ∷ xs) zero (suc j) v u n e d = omega (arith, sum_by-cons f x xs, ap f (some-injective x v e), one_at f xs j u d)
two_at f (x ∷ xs) (suc i) zero v u n e d = omega (arith, sum_by-cons f x xs, ap f (some-injective x u d), one_at f xs i v e)
two_at f (x ∷ xs) (suc i) (suc j) v u n e d = omega (arith, sum_by-cons f x xs, two_at f xs i j v u (λ s. n (ap suc s)) e d)

-- counts of accounts
count_cons : (w : ℕ) (a : Account) (l : List Account) → count_of w (a ∷ l) ≡ cond (a.writer == w) 1 0 + count_of w l
count_cons w a l = sum_by-cons (λ (b : Account). cond (b.writer == w) 1 0) a l

pub count_hit : (w : ℕ) (a : Account) (l : List Account) → a.writer ≡ w → count_of w (a ∷ l) ≡ suc (count_of w l)
count_hit w a l e = let t : (a.writer == w) ≡ true = grind (arith, nat_tests) in omega (arith, count_cons w a l, ap {B = ℕ} (λ (b : Bool). cond b 1 0) t)

pub count_miss : (w : ℕ) (a : Account) (l : List Account) → a.writer ≢ w → count_of w (a ∷ l) ≡ count_of w l
count_miss w a l n = let t : (a.writer == w) ≡ false = grind (arith, nat_tests) in omega (arith, count_cons w a l, ap {B = ℕ} (λ (b : Bool). cond b 1 0) t)

-- an account that is there is counted
pub counted : (w : ℕ) (l : List Account) (k : ℕ) (d : Account) → k < length l → (slice_index_or l k d).writer ≡ w → 1 ≤ count_of w l
counted w [] k d h e = absurd (omega arith)
counted w (a ∷ l) zero d h e = omega (arith, count_hit w a l e)
counted w (a ∷ l) (suc k) d h e = omega (arith, count_cons w a l, counted w l k d (omega arith) e)

pub counts_own : (w : ℕ) (sent : List Notice) → accounts_of w (sender w sent) ≡ 1
counts_own w sent = count_hit w (account w sent) [] refl

pub counts_other : (p w : ℕ) (sent : List Notice) → w ≢ p → accounts_of p (sender w sent) ≡ 0
counts_other p w sent n = count_miss p (account w sent) [] n

pub below_pos : (n k : ℕ) → 1 ≤ one_below n k → k < n
below_pos n k h = grind (arith, nat_tests)

pub below_one : (n k : ℕ) → one_below n k ≤ 1
below_one n k = grind (arith, nat_tests)

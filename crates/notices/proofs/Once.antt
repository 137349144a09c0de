-- Accounts of writers below n, no two of one writer: where there are n of them, each writer has one.
use Rattle.std.proofs.Common.{◌≡◌, ◌≢◌, ◌≤◌, ◌<◌, ℕ, zero, suc, ◌+◌, Bool, true, false, cond, List, [], ◌∷◌, length, filter, refl, sym, ap, ◌∙◌, subst, arith}
use Rattle.std.specs.Prelude.{◌==◌}
use Rattle.std.proofs.lemmas.Bool.Decides.{nat_tests}
use mathlib.Core.Logic.{dite}
use native.Mathlib.Decide.{ℕ_discrete}
use Rattle.notices.specs.declared.notice.Notice.{Notice}
use Rattle.notices.specs.declared.rule.Account.{Account}
use Rattle.notices.specs.Numbering.{of}
use Rattle.notices.specs.Rule.{account, count_of, one_below, Agree}
use Rattle.notices.specs.Steps.{AreDistinct}
use Rattle.notices.proofs.Sums.{count_hit, count_miss, below_one}

-- the accounts of other writers than n
abbrev without : ℕ → List Account → List Account
without n [] = []
without n (a ∷ l) = cond (a.writer == n) (without n l) (a ∷ without n l)

without_hit : (n : ℕ) (a : Account) (l : List Account) → a.writer ≡ n → without n (a ∷ l) ≡ without n l
without_hit n a l e = let t : (a.writer == n) ≡ true = grind (arith, nat_tests) in ap (λ (b : Bool). cond b (without n l) (a ∷ without n l)) t

without_miss : (n : ℕ) (a : Account) (l : List Account) → a.writer ≢ n → without n (a ∷ l) ≡ a ∷ without n l
without_miss n a l ne = let t : (a.writer == n) ≡ false = grind (arith, nat_tests) in ap (λ (b : Bool). cond b (without n l) (a ∷ without n l)) t

length_without : (n : ℕ) (l : List Account) → length l ≡ length (without n l) + count_of n l
length_without n [] = refl
length_without n (a ∷ l) = dite (ℕ_discrete a.writer n)
    (λ e. omega (arith, ap length (without_hit n a l e), count_hit n a l e, length_without n l))
    (λ ne. omega (arith, ap length (without_miss n a l ne), count_miss n a l ne, length_without n l))

count_without : (n w : ℕ) (l : List Account) → w ≢ n → count_of w (without n l) ≡ count_of w l
count_without n w [] ne = refl
count_without n w (a ∷ l) ne = dite (ℕ_discrete a.writer n)
    (λ e. ap (count_of w) (without_hit n a l e) ∙ count_without n w l ne ∙ sym (count_miss w a l (λ q. ne (sym q ∙ e))))
    (λ other. ap (count_of w) (without_miss n a l other) ∙ dite (ℕ_discrete a.writer w)
    (λ s. count_hit w a (without n l) s ∙ ap suc (count_without n w l ne) ∙ sym (count_hit w a l s))
    (λ d. count_miss w a (without n l) d ∙ count_without n w l ne ∙ sym (count_miss w a l d)))

count_gone : (n : ℕ) (l : List Account) → count_of n (without n l) ≡ 0
count_gone n [] = refl
count_gone n (a ∷ l) = dite (ℕ_discrete a.writer n)
    (λ e. ap (count_of n) (without_hit n a l e) ∙ count_gone n l)
    (λ ne. ap (count_of n) (without_miss n a l ne) ∙ count_miss n a (without n l) ne ∙ count_gone n l)

one_step : (n w : ℕ) → w ≢ n → one_below (suc n) w ≡ one_below n w
one_step n w ne = grind (arith, nat_tests)

fewer : (n : ℕ) (l : List Account) → AreDistinct (suc n) l → AreDistinct n (without n l)
fewer n l h w = dite (ℕ_discrete w n)
    (λ e. subst (λ y. count_of y (without n l) ≤ one_below n y) (sym e) (omega (arith, count_gone n l)))
    (λ ne. omega (arith, count_without n w l ne, h w, one_step n w ne))

pub at_most : (n : ℕ) (l : List Account) → AreDistinct n l → length l ≤ n
at_most zero [] h = omega arith
at_most zero (a ∷ l) h = let z : one_below 0 a.writer ≡ 0 = grind (arith, nat_tests) in absurd (omega (arith, h a.writer, count_hit a.writer a l refl))
at_most (suc n) l h = omega (arith, length_without n l, at_most n (without n l) (fewer n l h), h n, below_one (suc n) n)

pub each_once : (n : ℕ) (l : List Account) → AreDistinct n l → length l ≡ n → (w : ℕ) → w < n → count_of w l ≡ 1
each_once zero l h e w lt = absurd (omega arith)
each_once (suc n) l h e w lt =
    let less = at_most n (without n l) (fewer n l h) in
    let last : count_of n l ≡ 1 = omega (arith, length_without n l, h n, below_one (suc n) n) in
    dite (ℕ_discrete w n)
    (λ same. subst (λ y. count_of y l ≡ 1) (sym same) last)
    (λ ne. sym (count_without n w l ne) ∙ each_once n (without n l) (fewer n l h) (omega (arith, length_without n l)) w (omega arith))

-- the accounts of one writer
abbrev own : ℕ → List Account → List Account
own w l = filter (λ a. a.writer == w) l

own_hit : (w : ℕ) (a : Account) (l : List Account) → a.writer ≡ w → own w (a ∷ l) ≡ a ∷ own w l
own_hit w a l e = let t : (a.writer == w) ≡ true = grind (arith, nat_tests) in ap (λ (b : Bool). cond b (a ∷ own w l) (own w l)) t

own_miss : (w : ℕ) (a : Account) (l : List Account) → a.writer ≢ w → own w (a ∷ l) ≡ own w l
own_miss w a l ne = let t : (a.writer == w) ≡ false = grind (arith, nat_tests) in ap (λ (b : Bool). cond b (a ∷ own w l) (own w l)) t

own_none : (w : ℕ) (l : List Account) → count_of w l ≡ 0 → own w l ≡ []
own_none w [] h = refl
own_none w (a ∷ l) h = dite (ℕ_discrete a.writer w)
    (λ e. absurd (omega (arith, count_hit w a l e)))
    (λ ne. own_miss w a l ne ∙ own_none w l (omega (arith, count_miss w a l ne)))

-- the one account of a writer is what all has of it
pub own_one : (w : ℕ) (all : List Notice) (l : List Account) → Agree all l → count_of w l ≡ 1 → own w l ≡ account w (of w all) ∷ []
own_one w all [] agree h = absurd (omega arith)
own_one w all (a ∷ l) agree h = dite (ℕ_discrete a.writer w)
    (λ e.
    let sent : a.sent ≡ of w all = agree 0 a (omega arith) ∙ ap (λ x. of x all) e in
    let others = own_none w l (omega (arith, count_hit w a l e)) in
    own_hit w a l e ∙ (λ i. account (e i) (sent i) ∷ others i))
    (λ ne. own_miss w a l ne ∙ own_one w all l (λ k d lt. agree (suc k) d (omega arith)) (omega (arith, count_miss w a l ne)))

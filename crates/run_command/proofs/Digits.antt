-- Reading the digits of a word.
use Rattle.std.proofs.Common.{◌≡◌, ℕ, suc, ◌+◌, ◌<◌, List, [], length, drop, get_or, refl, sym, ap, ◌∙◌, add-one}
use Rattle.std.specs.Prelude.{Option, Some, None}
use Rattle.std.proofs.Math.Seq.{drop-cons}
use Rattle.run_command.specs.Script.{number_after, with_digit}

pub digits-next : (word : List ℕ) (i n m : ℕ) → i < length word → Some m ≡ with_digit n (get_or word i 0) → number_after (Some n) (drop i word) ≡ number_after (Some m) (drop (i + 1) word)
unfolding number_after
digits-next word i n m lt e =
    ap (number_after (Some n)) (drop-cons word i 0 lt)
    ∙ ap (λ (o : Option ℕ). number_after o (drop (suc i) word)) (sym e)
    ∙ ap (λ j. number_after (Some m) (drop j word)) (sym (add-one i))

pub digits-none : (word : List ℕ) (i n : ℕ) → i < length word → None ≡ with_digit n (get_or word i 0) → number_after (Some n) (drop i word) ≡ None
unfolding number_after
digits-none word i n lt e =
    ap (number_after (Some n)) (drop-cons word i 0 lt) ∙ ap (λ (o : Option ℕ). number_after o (drop (suc i) word)) (sym e)

pub digits-done : (n : ℕ) → number_after (Some n) [] ≡ Some n
unfolding number_after
digits-done n = refl

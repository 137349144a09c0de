-- The last space of a line, and what stands on its two sides.
use Rattle.std.proofs.Common.{◌≡◌, ℕ, suc, ◌+◌, ◌-◌, ◌<◌, ◌≤◌, not, true, false, List, [], ◌∷◌, length, get_or, take, drop, Some, refl, ap, arith}
use Rattle.std.specs.List.{list_any, before_last, after_last, suffix_len}
use Rattle.std.proofs.lemmas.List.{take_all, length-drop}
use Rattle.std.proofs.lemmas.List.Folds.{list_any_at}
use Rattle.std.proofs.lemmas.List.Sums.{suffix_len_is}
use Rattle.bstr.specs.Find.{is_byte, Passes, IsLastByte}
use Rattle.console.specs.Lines.{is_space}

not_true : (t : _) → (t ≡ true → ⊥) → t ≡ false
not_true true h = absurd (h refl)
not_true false h = refl

pub no_space : (l : List ℕ) → ((k : ℕ) → 0 ≤ k → k < length l → Passes (is_byte 32) l k → ⊥) → list_any is_space l ≡ false
no_space [] none = refl
no_space (c ∷ l) none =
    let here : is_space c ≡ false = not_true (is_space c) (none 0 (omega arith) (omega arith)) in
    rw here (no_space l (λ k low high passes. none (suc k) (omega arith) (omega arith) passes))

-- the sides of the last space, which stands at k
pub record LastSpace (l : List ℕ) (k : ℕ) : Type 0 where
  pub within : k < length l
  pub there : list_any is_space l ≡ true
  pub before : take k l ≡ before_last is_space l
  pub after : take (length l - (k + 1)) (drop (k + 1) l) ≡ after_last is_space l

pub last_space : (l : List ℕ) (k : ℕ) → IsLastByte (is_byte 32) l (Some k) → LastSpace l k
last_space l k last =
    let p = λ (c : ℕ). not (is_space c) in
    let high : k < length l = last.0.high in
    let rest : suffix_len p l ≡ length l - (k + 1) = suffix_len_is p l (k + 1) 0 (omega arith)
    (λ j low top. ap not (not_true (is_space (get_or l j 0)) (last.0.after j low top)))
    (λ pos. let e : (k + 1) - 1 ≡ k = omega arith in rw e (ap not last.1)) in
    let from : length l - suffix_len p l ≡ k + 1 = omega arith in
    let upto : length l - suffix_len p l - 1 ≡ k = omega arith in
    record {
      within = high;
      there = list_any_at is_space l k 0 high last.1;
      before = rw upto refl;
      after = rw from (take_all (length l - (k + 1)) (drop (k + 1) l) (omega (arith, length-drop (k + 1) l)));
    }

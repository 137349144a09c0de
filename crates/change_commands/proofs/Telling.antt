-- Reading the lines of a change, one by one: what was read, and what is left to read.
use Rattle.std.proofs.Common.{◌≡◌, Bool, ℕ, ◌+◌, ◌≤◌, List, [], ◌∷◌, length, true, false, ◌==◌, eqb-true, sym, ap, ◌∙◌, refl, arith}
use Rattle.std.specs.Prelude.{Some, None, Result, Ok, Err, is_ok}
use Rattle.record_forms.specs.Records.{WordFault}
use Rattle.record_forms.specs.declared.form.Form.{Form}
use Rattle.spec.specs.Reading.{◌>>=◌}
use Rattle.spec.specs.Writes.{Write}
use Rattle.repository_commands.specs.Faults.{Fault, Line, BadLine}
use Rattle.change_commands.specs.Stories.{Story, parted, read_on, story_from, taken_into, write_on}
use Rattle.change_commands.specs.Views.{parts_if}
use Rattle.change_commands.specs.Told.{Parts, Told, or_bad_part, told_from, told_of, with_told_line}

-- ---- a story

pub story_empty : (form : Form) (s : Story) (n : ℕ) (l : List ℕ) (ls : List (List ℕ)) → (length l == 0) ≡ true
    → story_from form s n (l ∷ ls) ≡ story_from form (parted s) (n + 1) ls
unfolding story_from
story_empty form s n [] ls e = refl
story_empty form s n (c ∷ l) ls e = absurd (omega (arith, eqb-true _ _ e))

going-on : (o : Result Write WordFault) (t further : Story) → true ≡ is_ok o → read_on o t further ≡ further
going-on (Err f) t further e = absurd cc
going-on (Ok w) t further e = refl

stopped : (o : Result Write WordFault) (t further : Story) → false ≡ is_ok o → read_on o t further ≡ t
stopped (Err f) t further e = refl
stopped (Ok w) t further e = absurd cc

-- a line that is a write
pub story_on : (form : Form) (s t : Story) (n : ℕ) (l : List ℕ) (ls : List (List ℕ)) → (length l == 0) ≡ false
    → t ≡ taken_into s.is_parted s n (write_on form s.is_parted l) → true ≡ is_ok (write_on form s.is_parted l)
    → story_from form s n (l ∷ ls) ≡ story_from form t (n + 1) ls
unfolding story_from
story_on form s t n [] ls some e is = absurd cc
story_on form s t n (c ∷ l) ls some e is =
    going-on (write_on form s.is_parted (c ∷ l)) _ _ is ∙ ap (λ u. story_from form u (n + 1) ls) (sym e)

-- a line that is none
pub story_stop : (form : Form) (s t : Story) (n : ℕ) (l : List ℕ) (ls : List (List ℕ)) → (length l == 0) ≡ false
    → t ≡ taken_into s.is_parted s n (write_on form s.is_parted l) → false ≡ is_ok (write_on form s.is_parted l)
    → story_from form s n (l ∷ ls) ≡ t
unfolding story_from
story_stop form s t n [] ls some e is = absurd cc
story_stop form s t n (c ∷ l) ls some e is = stopped (write_on form s.is_parted (c ∷ l)) _ _ is ∙ sym e

pub story_done : (form : Form) (s : Story) (n : ℕ) → story_from form s n [] ≡ s
unfolding story_from
story_done form s n = refl

pub record StoryRemains (form : Form) (all : Story) (most number : ℕ) (s : Story) (ls : List (List ℕ)) : Type 0 where
  pub reading : all ≡ story_from form s (number + 1) ls
  pub bound : number + length ls ≤ most

-- ---- what is told

pub told_empty : (p : Parts) (n : ℕ) (l : List ℕ) (ls : List (List ℕ)) → (length l == 0) ≡ true
    → told_from p n (l ∷ ls) ≡ told_from p (n + 1) ls
unfolding told_from
told_empty p n [] ls e = refl
told_empty p n (c ∷ l) ls e = absurd (omega (arith, eqb-true _ _ e))

told_on : (p q : Parts) (n : ℕ) (l : List ℕ) (ls : List (List ℕ)) → (length l == 0) ≡ false
    → Some q ≡ with_told_line p n l → told_from p n (l ∷ ls) ≡ told_from q (n + 1) ls
unfolding told_from
told_on p q n [] ls some e = absurd cc
told_on p q n (c ∷ l) ls some e = ap (λ o. or_bad_part n o >>= (λ r. told_from r (n + 1) ls)) (sym e)

told_bad : (p : Parts) (n : ℕ) (l : List ℕ) (ls : List (List ℕ)) → (length l == 0) ≡ false
    → None ≡ with_told_line p n l → told_from p n (l ∷ ls) ≡ Err (Line n BadLine)
unfolding told_from
told_bad p n [] ls some e = absurd cc
told_bad p n (c ∷ l) ls some e = ap (λ o. or_bad_part n o >>= (λ r. told_from r (n + 1) ls)) (sym e)

-- by what was read of a line
pub told_next : (p q : Parts) (n : ℕ) (l : List ℕ) (ls : List (List ℕ)) → (length l == 0) ≡ false
    → (b : Bool) → b ≡ true → parts_if b q ≡ with_told_line p n l → told_from p n (l ∷ ls) ≡ told_from q (n + 1) ls
told_next p q n l ls some b is e = told_on p q n l ls some (ap (λ t. parts_if t q) (sym is) ∙ e)

pub told_none : (p q : Parts) (n : ℕ) (l : List ℕ) (ls : List (List ℕ)) → (length l == 0) ≡ false
    → (b : Bool) → b ≡ false → parts_if b q ≡ with_told_line p n l → told_from p n (l ∷ ls) ≡ Err (Line n BadLine)
told_none p q n l ls some b is e = told_bad p n l ls some (ap (λ t. parts_if t q) (sym is) ∙ e)

pub told_done : (p : Parts) (n : ℕ) → told_from p n [] ≡ told_of n p.before p.after p
unfolding told_from
told_done p n = refl

pub record ToldRemains (all : Result Told Fault) (most number : ℕ) (p : Parts) (ls : List (List ℕ)) : Type 0 where
  pub reading : all ≡ told_from p (number + 1) ls
  pub bound : number + length ls ≤ most

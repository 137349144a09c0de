-- A stream is told message by message.
use Rattle.std.proofs.Common.{◌≡◌, ◌∙◌, ◌+◌, ◌-◌, ◌<◌, ◌==◌, eqb-true, Bool, true, false, ℕ, zero, suc, List, [], ◌∷◌, length, Some, None, refl, sym, ap, ap₂, subst, arith}
use Rattle.std.specs.Prelude.{◌++◌, Option, option_map, Result, Ok, Err}
use Rattle.spec.specs.Reading.{◌>>=◌, Fails}
use Rattle.record_forms.specs.declared.form.Form.{Form}
use Rattle.event_frames.specs.Frames.{cut}
use Rattle.event_laws.specs.Verdict as verdict
use Rattle.event_commands.specs.Faults.{Fault, OfMessage}
use Rattle.event_commands.specs.Texts.{message_lines, of_message, told_from, told_next}

module _ (digest : List ℕ → List ℕ) (form : Form) where
  -- ---- one message

  module _ (said : List ℕ) (n : ℕ) (root message : List ℕ) where
    pub next_told : (c : verdict.Checked) (text after : List ℕ) → verdict.commit_verdict digest 2 root message ≡ Ok c → text ≡ said ++ message_lines form c
        → after ≡ c.commit.root → told_next digest form said n root message ≡ Ok (text, after)
    next_told c text after e et ea =
        ap (λ q. of_message n q >>= λ d. Ok (said ++ message_lines form d, d.commit.root)) e ∙ ap₂ (λ t r. Ok (t, r)) (sym et) (sym ea)

    pub next_fails : (o : Option verdict.EventFault) → Fails o (verdict.commit_verdict digest 2 root message)
        → Fails (option_map (OfMessage n) o) (told_next digest form said n root message)
    next_fails None e = tt
    next_fails (Some f) e = ap (λ q. of_message n q >>= λ d. Ok (said ++ message_lines form d, d.commit.root)) e

  first_told : (said : List ℕ) (most n : ℕ) (root rest : List ℕ) → 0 < length rest
      → told_from digest form said (suc most) n root rest
      ≡ (told_next digest form said n root (cut rest).0 >>= λ t. told_from digest form t.0 most (n + 1) t.1 (cut rest).1)
  unfolding told_from
  first_told said most n root [] some = absurd (omega (arith, some))
  first_told said most n root (b ∷ bs) some = refl

  pub nothing_left : (said : List ℕ) (most n : ℕ) (root rest : List ℕ) → length rest ≡ 0 → told_from digest form said most n root rest ≡ Ok said
  unfolding told_from
  nothing_left said most n root [] none = refl
  nothing_left said most n root (b ∷ bs) none = absurd (omega (arith, none))

  pub none_more : (said : List ℕ) (n : ℕ) (root rest : List ℕ) → told_from digest form said 0 n root rest ≡ Ok said
  unfolding told_from
  none_more said n root [] = refl
  none_more said n root (b ∷ bs) = refl

  -- ---- in the loop

  module _ (said : List ℕ) (all turn : ℕ) (root rest message behind : List ℕ) (far : turn < all) (some : 0 < length rest)
      (is : (message, behind) ≡ cut rest) where
    step : told_from digest form said (all - turn) (turn + 1) root rest
        ≡ (told_next digest form said (turn + 1) root message >>= λ t. told_from digest form t.0 (all - (turn + 1)) (turn + 1 + 1) t.1 behind)
    step =
        let more : all - turn ≡ suc (all - (turn + 1)) = omega (arith, far) in
        ap (λ most. told_from digest form said most (turn + 1) root rest) more
        ∙ first_told said (all - (turn + 1)) (turn + 1) root rest some
        ∙ ap (λ (p : List ℕ × List ℕ). told_next digest form said (turn + 1) root p.0 >>= λ t. told_from digest form t.0 (all - (turn + 1)) (turn + 1 + 1) t.1 p.1) (sym is)

    pub told_on : (text after : List ℕ) → told_next digest form said (turn + 1) root message ≡ Ok (text, after)
        → told_from digest form said (all - turn) (turn + 1) root rest ≡ told_from digest form text (all - (turn + 1)) (turn + 1 + 1) after behind
    told_on text after e = step ∙ ap (λ q. q >>= λ t. told_from digest form t.0 (all - (turn + 1)) (turn + 1 + 1) t.1 behind) e

    pub untold : (o : Option Fault) → Fails o (told_next digest form said (turn + 1) root message)
        → Fails o (told_from digest form said (all - turn) (turn + 1) root rest)
    untold None e = tt
    untold (Some f) e = step ∙ ap (λ q. q >>= λ t. told_from digest form t.0 (all - (turn + 1)) (turn + 1 + 1) t.1 behind) e

pub fails_same : {A : Type 0} (o : Option Fault) (one other : Result A Fault) → one ≡ other → Fails o other → Fails o one
fails_same None one other e fails = tt
fails_same (Some f) one other e fails = e ∙ fails

-- ---- whether something is left

pub none_of : (n : ℕ) (empty : Bool) → empty ≡ (n == 0) → empty ≡ true → n ≡ 0
none_of n empty is so = eqb-true _ _ (sym is ∙ so)

pub some_of : (n : ℕ) (empty : Bool) → empty ≡ (n == 0) → empty ≡ false → 0 < n
some_of zero empty is not_so = absurd cc
some_of (suc n) empty is not_so = omega arith

-- What is made of an input, where it is known.
use Rattle.std.proofs.Common.{◌≡◌, ℕ, List, Some, None, sym, ap, subst, ◌∙◌}
use Rattle.std.specs.Prelude.{Option, Result, Ok, Err, IfSome, IsErrAnd}
use Rattle.spec.specs.Reading.{◌>>=◌, Gives, Fails}
use Rattle.spec.specs.Cid.{cid_of_text}
use Rattle.spec.specs.Stamps.{Stamp}
use Rattle.console.specs.Lines.{numbered_lines}
use Rattle.record_forms.specs.declared.form.Form.{Form}
use Rattle.repository_commands.specs.Puts.{Given, given_in}
use Rattle.repository_commands.specs.Faults.{Fault, text_fault_of}
use Rattle.repository_commands.specs.Outcomes.{IsMade, Texts}
use Rattle.repository_commands.specs.Texts.{stamp_check, signing_check, key_check, car_of_given, car_text, signed_car_of_given, signed_car_text, proof_of_given, prove_text, blocks_of_lines, or_bad_root, answer_of_blocks, verify_text}
use Rattle.repository_commands.specs.declared.fault.TextFault.{TextFault}
use Rattle.console.proofs.Known.{always_known, for_known}

-- ---- one step of a reading

pub fails_then : {A B F : Type 0} (o : Option F) (r : Result A F) (next : A → Result B F) → Fails o r → Fails o (r >>= next)
fails_then None r next e = tt
fails_then (Some f) r next e = ap (λ q. q >>= next) e

pub gives_then : {A B F : Type 0} (r : Result A F) (x : A) (next : A → Result B F) → r ≡ Ok x → (r >>= next) ≡ next x
gives_then r x next e = ap (λ q. q >>= next) e

-- ---- a fault that is passed on

pub passed : {X E : Type 0} (P : Result X E → Type 0) (r : Result X E) (f : E) → IsErrAnd r (λ e. e ≡ f) → P (Err f) → P r
passed P (Ok x) f e p = absurd e
passed P (Err g) f e p = subst (λ h. P (Err h)) (sym e) p

module _ {X D A : Type 0} (view : X → List ℕ) (text : Texts) (input : Option (List ℕ)) (r : Result X (TextFault D A)) where
  -- a fault that comes whatever the input is
  pub made_by_fault : (f : TextFault D A) → IsErrAnd r (λ e. e ≡ f) → ((xs : List ℕ) → Fails (text_fault_of f) (text xs)) → IsMade view text input r
  made_by_fault f e fails = passed (IsMade view text input) r f e (always_known (λ xs. Fails (text_fault_of f) (text xs)) input fails)

  -- what was read of it is at fault
  pub made_by_input : (f : TextFault D A) → IsErrAnd r (λ e. e ≡ f) → IfSome input (λ xs. Fails (text_fault_of f) (text xs)) → IsMade view text input r
  made_by_input f e known = passed (IsMade view text input) r f e known

  -- it was read, and what was made of it is its text
  pub made_of : (P : List ℕ → Type 0) → IfSome input P → ((xs : List ℕ) → P xs → Gives view text_fault_of r (text xs)) → IsMade view text input r
  made_of P known gives = for_known P (λ xs. Gives view text_fault_of r (text xs)) input gives known

-- ---- the texts, step by step

pub car_unchecked : (digest : List ℕ → List ℕ) (form : Form) (stamp : Stamp) (o : Option Fault) → Fails o (stamp_check stamp) → (xs : List ℕ) → Fails o (car_text digest form stamp xs)
unfolding car_text
car_unchecked digest form stamp o e xs = fails_then o (stamp_check stamp) (λ _. car_of_given digest stamp (given_in form xs)) e

pub car_checked : (digest : List ℕ → List ℕ) (form : Form) (stamp : Stamp) (given : Given) (xs : List ℕ) → stamp_check stamp ≡ Ok tt → given ≡ given_in form xs → car_text digest form stamp xs ≡ car_of_given digest stamp given
unfolding car_text
car_checked digest form stamp given xs e is = gives_then (stamp_check stamp) tt (λ _. car_of_given digest stamp (given_in form xs)) e ∙ ap (car_of_given digest stamp) (sym is)

pub signing_unchecked : (digest : List ℕ → List ℕ) (form : Form) (stamp : Stamp) (word : List ℕ) (o : Option Fault) → Fails o (signing_check stamp word) → (xs : List ℕ) → Fails o (signed_car_text digest form stamp word xs)
unfolding signed_car_text
signing_unchecked digest form stamp word o e xs = fails_then o (signing_check stamp word) (λ sig. signed_car_of_given digest stamp sig (given_in form xs)) e

pub signing_checked : (digest : List ℕ → List ℕ) (form : Form) (stamp : Stamp) (word sig : List ℕ) (given : Given) (xs : List ℕ) → signing_check stamp word ≡ Ok sig → given ≡ given_in form xs → signed_car_text digest form stamp word xs ≡ signed_car_of_given digest stamp sig given
unfolding signed_car_text
signing_checked digest form stamp word sig given xs e is =
    gives_then (signing_check stamp word) sig (λ s. signed_car_of_given digest stamp s (given_in form xs)) e ∙ ap (signed_car_of_given digest stamp sig) (sym is)

pub prove_unchecked : (digest : List ℕ → List ℕ) (form : Form) (stamp : Stamp) (key : List ℕ) (o : Option Fault) → Fails o (key_check key) → (xs : List ℕ) → Fails o (prove_text digest form stamp key xs)
unfolding prove_text
prove_unchecked digest form stamp key o e xs = fails_then o (key_check key) (λ _. proof_of_given digest stamp key (given_in form xs)) e

pub prove_checked : (digest : List ℕ → List ℕ) (form : Form) (stamp : Stamp) (key : List ℕ) (given : Given) (xs : List ℕ) → key_check key ≡ Ok tt → given ≡ given_in form xs → prove_text digest form stamp key xs ≡ proof_of_given digest stamp key given
unfolding prove_text
prove_checked digest form stamp key given xs e is = gives_then (key_check key) tt (λ _. proof_of_given digest stamp key (given_in form xs)) e ∙ ap (proof_of_given digest stamp key) (sym is)

module _ (digest : List ℕ → List ℕ) (root key : List ℕ) where
  -- a faulty root, a faulty key
  pub verify_unrooted : (o : Option Fault) → Fails o (or_bad_root (cid_of_text root)) → (xs : List ℕ) → Fails o (verify_text digest root key xs)
  unfolding verify_text
  verify_unrooted o e xs = fails_then o (or_bad_root (cid_of_text root)) (λ r. key_check key >>= (λ _. blocks_of_lines (numbered_lines xs) >>= answer_of_blocks digest r key)) e

  module _ (r : List ℕ) (rooted : or_bad_root (cid_of_text root) ≡ Ok r) where
    verify_rooted : (xs : List ℕ) → verify_text digest root key xs ≡ (key_check key >>= (λ _. blocks_of_lines (numbered_lines xs) >>= answer_of_blocks digest r key))
    unfolding verify_text
    verify_rooted xs = gives_then (or_bad_root (cid_of_text root)) r (λ r. key_check key >>= (λ _. blocks_of_lines (numbered_lines xs) >>= answer_of_blocks digest r key)) rooted

    pub verify_unkeyed : (o : Option Fault) → Fails o (key_check key) → (xs : List ℕ) → Fails o (verify_text digest root key xs)
    verify_unkeyed o e xs = subst (Fails o) (sym (verify_rooted xs)) (fails_then o (key_check key) (λ _. blocks_of_lines (numbered_lines xs) >>= answer_of_blocks digest r key) e)

    -- both words pass
    module _ (keyed : key_check key ≡ Ok tt) where
      verify_keyed : (xs : List ℕ) → verify_text digest root key xs ≡ (blocks_of_lines (numbered_lines xs) >>= answer_of_blocks digest r key)
      verify_keyed xs = verify_rooted xs ∙ gives_then (key_check key) tt (λ _. blocks_of_lines (numbered_lines xs) >>= answer_of_blocks digest r key) keyed

      pub verify_unlined : (o : Option Fault) (xs : List ℕ) → Fails o (blocks_of_lines (numbered_lines xs)) → Fails o (verify_text digest root key xs)
      verify_unlined o xs e = subst (Fails o) (sym (verify_keyed xs)) (fails_then o (blocks_of_lines (numbered_lines xs)) (answer_of_blocks digest r key) e)

      pub verify_lined : (xs : List ℕ) (bs : List (List ℕ)) → blocks_of_lines (numbered_lines xs) ≡ Ok bs → verify_text digest root key xs ≡ answer_of_blocks digest r key bs
      verify_lined xs bs e = verify_keyed xs ∙ gives_then (blocks_of_lines (numbered_lines xs)) bs (answer_of_blocks digest r key) e

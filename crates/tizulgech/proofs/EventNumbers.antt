-- What is told of faults within others, and of a message that was checked.
use Rattle.std.proofs.Common.{◌≡◌, ℕ, List, false, sym, ap, subst}
use Rattle.std.specs.Prelude.{nat_eq, option_map, Option, Some, None, Result, Ok, Err}
use Rattle.spec.specs.Reading.{Gives}
use Rattle.change_laws.specs.Given as changes
use Rattle.event_laws.specs.Reading as forms
use Rattle.event_laws.specs.Verdict as events
use Rattle.event_laws.specs.Verdict.{Checked}
use Rattle.commit_events.specs.Views.{checked_of, event_fault_of}
use Rattle.commit_events.specs.declared.checked.CheckedCommit.{CheckedCommit}
use Rattle.commit_events.specs.declared.fault.EventFault.{EventFault}
use Rattle.tizulgech.specs.Numbers.{IsHandedOr255}
use Rattle.tizulgech.specs.Messages.{checked_spelt, change_told, event_told, form_told, node_or_want, told_or_want, IsChecked}

-- a fault within another one
pub form_in_event : (told : ℕ × ℕ) (f : Option forms.FormFault) → told ≡ told_or_want form_told f
    → told ≡ told_or_want event_told (option_map events.OfForm f)
form_in_event told None e = e
form_in_event told (Some f) e = e

pub change_in_event : (told : ℕ × ℕ) (f : Option changes.ChangeFault) → told ≡ told_or_want change_told f
    → told ≡ told_or_want event_told (option_map events.NotShown f)
change_in_event told None e = e
change_in_event told (Some f) e = e

-- nothing is said where memory was refused
never-255 : (code : ℕ) → code ≡ 255 → nat_eq code 255 ≡ false → ⊥
never-255 code e p = let no : nat_eq 255 255 ≡ false = subst (λ (n : ℕ). nat_eq n 255 ≡ false) e p in absurd cc

module _ (code place : ℕ) (was missing before room : List ℕ) (size : ℕ) where
  unsaid : (answer : Result Checked events.EventFault) → code ≡ 255 → IsChecked code place was missing before room size answer
  unsaid (Ok c) e = λ p. absurd (never-255 code e p)
  unsaid (Err f) e = λ p. absurd (never-255 code e p)

  by_fault : (fault : Option events.EventFault) (answer : Result Checked events.EventFault)
      → Gives {X = Checked} (λ c. c) (λ (f : Option events.EventFault). f) (Err fault) answer
      → (code, place) ≡ told_or_want event_told fault → missing ≡ node_or_want fault was
      → IsChecked code place was missing before room size answer
  by_fault None answer g told node = unsaid answer (ap (λ (x : ℕ × ℕ). x.0) told)
  by_fault (Some f) answer g told node =
      subst (λ (a : Result Checked events.EventFault). IsChecked code place was missing before room size a) (sym g) (λ _. (told, node))

  -- a fault of the code
  pub fault_checked : {X : Type 0} (view : X → Checked) (fault : EventFault) (answer : Result Checked events.EventFault)
      → Gives view event_fault_of (Err fault) answer
      → (code, place) ≡ told_or_want event_told (event_fault_of fault) → missing ≡ node_or_want (event_fault_of fault) was
      → IsChecked code place was missing before room size answer
  fault_checked view fault answer g told node = by_fault (event_fault_of fault) answer g told node

  -- a message that is true
  pub true_checked : {A : Type 0} (c : CheckedCommit A) (answer : Result Checked events.EventFault)
      → Gives checked_of event_fault_of (Ok c) answer → IsHandedOr255 code (checked_spelt (checked_of c)) before room size
      → IsChecked code place was missing before room size answer
  true_checked c answer g handed =
      subst (λ (a : Result Checked events.EventFault). IsChecked code place was missing before room size a) (sym g) handed

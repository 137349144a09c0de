-- What is made of an input, where it is known, step by step.
use Rattle.std.proofs.Common.{◌≡◌, ◌∙◌, ℕ, List, Some, None, sym, ap}
use Rattle.std.specs.Prelude.{Option, option_map, Result, Ok, Err, IfSome, IsErrAnd}
use Rattle.spec.specs.Reading.{◌>>=◌, Gives, Fails}
use Rattle.record_forms.specs.declared.form.Form.{Form}
use Rattle.repository_commands.specs.Faults as texts
use Rattle.console.proofs.Known.{always_known, for_known}
use Rattle.repository_commands.proofs.Making.{fails_then, gives_then, passed}
use Rattle.change_commands.specs.Stories.{Story, story_in}
use Rattle.event_commands.specs.Faults.{Fault, OfText, message_fault_of}
use Rattle.event_commands.specs.Outcomes.{IsMade, Texts}
use Rattle.event_commands.specs.Texts.{Words, check_event_text, event_of_story, event_text, lines_of_stream, of_text, root_of_word, signature_of}
use Rattle.event_commands.specs.declared.command.Subject.{Subject}
use Rattle.event_commands.specs.declared.fault.MessageFault.{MessageFault}

module _ {X D : Type 0} (view : X → List ℕ) (text : Texts) (input : Option (List ℕ)) (r : Result X (MessageFault D)) where
  -- a fault that comes whatever the input is
  pub made_by_fault : (f : MessageFault D) → IsErrAnd r (λ e. e ≡ f) → ((xs : List ℕ) → Fails (message_fault_of f) (text xs)) → IsMade view text input r
  made_by_fault f e fails = passed (IsMade view text input) r f e (always_known (λ xs. Fails (message_fault_of f) (text xs)) input fails)

  -- it was read, and what was made of it is its text
  pub made_of : (P : List ℕ → Type 0) → IfSome input P → ((xs : List ℕ) → P xs → Gives view message_fault_of r (text xs)) → IsMade view text input r
  made_of P known gives = for_known P (λ xs. Gives view message_fault_of r (text xs)) input gives known

-- ---- the texts, step by step

pub uncounted : (digest : List ℕ → List ℕ) (form : Form) (word : List ℕ) (o : Option Fault) → Fails o (root_of_word word) → (xs : List ℕ)
    → Fails o (check_event_text digest form word xs)
unfolding check_event_text
uncounted digest form word o e xs = fails_then o (root_of_word word) (λ r. lines_of_stream digest form r xs) e

pub rooted : (digest : List ℕ → List ℕ) (form : Form) (word root stream xs : List ℕ) → root_of_word word ≡ Ok root → stream ≡ xs
    → check_event_text digest form word xs ≡ lines_of_stream digest form root stream
unfolding check_event_text
rooted digest form word root stream xs e is =
    gives_then (root_of_word word) root (λ r. lines_of_stream digest form r xs) e ∙ ap (lines_of_stream digest form root) (sym is)

module _ (digest : List ℕ → List ℕ) (subject : Subject) (form : Form) (w : Words) where
  pub unsigned : (o : Option Fault) → Fails o (signature_of w) → (xs : List ℕ) → Fails o (event_text digest subject form w xs)
  unfolding event_text
  unsigned o e xs = fails_then o (signature_of w) (λ sig. event_of_story digest subject w sig (story_in form xs)) e

  pub signed : (sig : List ℕ) (story : Story) (xs : List ℕ) → signature_of w ≡ Ok sig → story ≡ story_in form xs
      → event_text digest subject form w xs ≡ event_of_story digest subject w sig story
  unfolding event_text
  signed sig story xs e is =
      gives_then (signature_of w) sig (λ s. event_of_story digest subject w s (story_in form xs)) e
      ∙ ap (event_of_story digest subject w sig) (sym is)

-- ---- a step that the commands on a repository have too

pub text_fails : {A B : Type 0} (o : Option texts.Fault) (r : Result A texts.Fault) (next : A → Result B Fault) → Fails o r
    → Fails (option_map OfText o) (of_text r >>= next)
text_fails None r next e = tt
text_fails (Some f) r next e = ap (λ q. of_text q >>= next) e

pub text_gives : {A B : Type 0} (r : Result A texts.Fault) (x : A) (next : A → Result B Fault) → r ≡ Ok x → (of_text r >>= next) ≡ next x
text_gives r x next e = ap (λ q. of_text q >>= next) e

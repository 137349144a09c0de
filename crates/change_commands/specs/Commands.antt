-- What each command writes, by its words.
use Rattle.std.specs.Prelude.{ℕ, List, IsErr}
use Rattle.repository_commands.specs.Outcomes.{Reasons, Texts}
use Rattle.change_commands.specs.Texts.{prove_change_text, roots_of, verify_change_text, IsUnproved, IsUnshown}
use Rattle.change_commands.specs.declared.words.ChangeCommand.{ChangeCommand}
use Rattle.change_commands.specs.declared.words.ChangeCommand.TheVariants as commands

abbrev pub texts_of : (List ℕ → List ℕ) → ChangeCommand → Texts
texts_of digest (commands.Prove direction form) = prove_change_text digest direction form
texts_of digest (commands.Verify direction before after) =
    verify_change_text digest direction before.now after.now

-- why there may be no text of an input: `prove-change` refuses a line alone that a repository refuses, and
-- `verify-change` what isn't shown
abbrev pub reasons_of : {D A : Type 0} → (List ℕ → List ℕ) → ChangeCommand → Reasons D A
reasons_of digest (commands.Prove direction form) = IsUnproved digest form
reasons_of digest (commands.Verify direction before after) = IsUnshown digest direction

-- a word of the command isn't one that it takes
abbrev pub HasFaultyWord : ChangeCommand → Type 0
HasFaultyWord (commands.Prove direction form) = ⊥
HasFaultyWord (commands.Verify direction before after) = IsErr (roots_of before.now after.now)

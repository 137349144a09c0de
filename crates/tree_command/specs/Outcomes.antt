-- How a listing ends.
use Rattle.std.specs.Prelude.{◌≡◌, ◌≤◌, ℕ, true, false, List, Option, Result, Ok, Err, is_ok, is_some, map, IfSome}
use Rattle.std.specs.Arc.{arc_value}
use Rattle.std.specs.Io.KnownBytes.{IsAtEnd, Keeps}
use Rattle.spec.specs.Reading.{Fails}
use Rattle.scratch.specs.declared.tree.Built.{Built}
use Rattle.console.specs.Written.{AppendsBeginning, AppendsText}
use Rattle.console.specs.declared.fault.CommandFault.{CommandFault}
use Rattle.console.specs.declared.fault.CommandFault.TheVariants as ends
use Rattle.tree_command.specs.Fault.{tree_fault_of}
use Rattle.tree_command.specs.TreeText as texts
use Rattle.tree_command.specs.declared.fault.TreeFault.{TreeFault}

-- a tree that was built, as the definitions have it
abbrev pub seen : {D A : Type 0} → Built D A → List ℕ × List (List ℕ)
seen built = (built.root, map arc_value built.blocks.items)

-- what is to be listed of an input, or why nothing
abbrev pub Texts : Type 0
Texts = List ℕ → Result (List ℕ) texts.TreeFault

-- An input that is known or not has no text, or none that memory and devices allowed: a fault of the
-- input is the one that its text has, and all of it was read before that was told.
pub record IsUnlisted (text : Texts) (input left : Option (List ℕ)) (fault : TreeFault) : Type 0 where
  pub of_text : IfSome input (λ xs. Fails (tree_fault_of fault) (text xs))
  pub judged : is_some (tree_fault_of fault) ≡ true → IsAtEnd left

-- its text was written up to a failed write
pub record IsCutOff (text : Texts) (input old new : Option (List ℕ)) : Type 0 where
  pub there : IfSome input (λ xs. is_ok (text xs) ≡ true)
  pub beginning : IfSome input (λ xs. AppendsBeginning old new (texts.text_or_nothing (text xs)))

-- A listing ended so, with what is left of the input, and with a writer's known contents before and
-- after: what was read is the whole input, and what was written its text; or there is none, and nothing
-- was written; or a write failed.
abbrev pub IsOutcome : Texts → Option (List ℕ) → Option (List ℕ) → Option (List ℕ) → Option (List ℕ)
    → Result (Unit {0}) (CommandFault TreeFault) → Type 0
IsOutcome text input left old new (Ok done) =
    IsAtEnd left × IfSome input (λ xs. AppendsText old new (text xs))
IsOutcome text input left old new (Err (ends.NoText fault)) =
    IsUnlisted text input left fault × Keeps old new
IsOutcome text input left old new (Err (ends.Unwritten fault)) = IsCutOff text input old new

-- The exit status of a listing. At 0 the text of the input was written; at 1 it has none, and nothing
-- was. At any a beginning of the text was, and so nothing where there is none.
pub record IsStatusOf (text : Texts) (input old new : Option (List ℕ)) (status : ℕ) : Type 0 where
  pub one_of : status ≤ 4
  pub done : status ≡ 0 → IfSome input (λ xs. AppendsText old new (text xs))
  pub faulty : status ≡ 1 → IfSome input (λ xs. is_ok (text xs) ≡ false)
  pub nothing : status ≡ 1 → Keeps old new
  pub usage : (status ≡ 2) → ⊥
  pub beginning : IfSome input (λ xs. AppendsBeginning old new (texts.text_or_nothing (text xs)))

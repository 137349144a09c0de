-- How the command ends on two files.
use Rattle.std.specs.Prelude.{◌≡◌, ◌⊎◌, ⊤, ◌≤◌, ℕ, List, ◌++◌, Option, Some, None, IfSome}
use Rattle.std.specs.Io.KnownBytes.{Appends, Keeps}
use Rattle.spec.specs.Blocks.{IsClashFree, nodes, root}
use Rattle.spec.specs.Tree.{Pair}
use Rattle.change_laws.specs.Told.{KeyChange}
use Rattle.difference_laws.specs.Laws.{IsDifference}
use Rattle.console.specs.Written.{AppendsBeginning}
use Rattle.difference_commands.specs.Faults.{status_of}
use Rattle.difference_commands.specs.Files.{IsCommitOf, IsFileFault, Says, said_commit, said_pairs, said_records}
use Rattle.difference_commands.specs.Forms.{form_of}
use Rattle.export_commands.specs.Texts.{Records}
use Rattle.difference_commands.specs.Texts.{lines_text, slice_if}
use Rattle.difference_commands.specs.Trees.{AreComing}
use Rattle.difference_commands.specs.declared.command.ChangesCommand.{ChangesCommand}
use Rattle.difference_commands.specs.declared.contents.Contents.{Contents}
use Rattle.difference_commands.specs.declared.fault.ChangesFault.{ChangesFault}
use Rattle.difference_commands.specs.declared.fault.ChangesFault.TheVariants as errors

-- what a file says to the command, in the form that is told or found out
abbrev pub IsSaid : (List ℕ → List ℕ) → ChangesCommand → List ℕ → List Pair → Records → Type 0
IsSaid digest command file es m = Says digest command (form_of command.form file) file es m

-- The lines of the difference of these pairs, beside which the files have these records and the new one this commit; and the slice of
-- what comes by it, where that is wanted.
pub record AreTexts (digest : List ℕ → List ℕ) (command : ChangesCommand) (commit : Option (List ℕ)) (before after : List Pair)
    (old_records new_records : Records) (lines : List ℕ) (sliced : Option (List ℕ)) : Type 0 where
  pub changes : List KeyChange
  pub differ : IsDifference changes before after
  pub nodes : List (List ℕ)
  pub nodes_are : AreComing digest before after nodes
  pub lines_are : lines ≡ lines_text command.values old_records new_records changes
  pub slice_is : sliced ≡ slice_if command.blocks digest
      (record { commit = commit; root = root digest 2 after; nodes = nodes }) new_records changes

-- those of what two files say
pub record AreTextsOf (digest : List ℕ → List ℕ) (command : ChangesCommand) (old new lines : List ℕ) (sliced : Option (List ℕ))
    : Type 0 where
  pub before : List Pair
  pub old_records : Records
  pub old_says : IsSaid digest command old before old_records
  pub after : List Pair
  pub new_records : Records
  pub new_says : IsSaid digest command new after new_records
  pub commit : Option (List ℕ)
  pub commit_is : IsCommitOf digest (form_of command.form new) new new_records commit
  pub texts : AreTexts digest command commit before after old_records new_records lines sliced

-- the same of what the code has of them
abbrev pub AreTextsBetween : {A : Type 0} → (List ℕ → List ℕ) → ChangesCommand → Contents A → Contents A → List ℕ → Option (List ℕ)
    → Type 0
AreTextsBetween digest command old new lines sliced =
    AreTexts digest command (said_commit new) (said_pairs digest old) (said_pairs digest new)
    (said_records old) (said_records new) lines sliced

-- the old file says something
abbrev pub IsHeard : (List ℕ → List ℕ) → ChangesCommand → List ℕ → Type 0
IsHeard digest command file = (es : List Pair) × (m : Records) × IsSaid digest command file es m

-- of these pairs two nodes have one CID, or memory was wanted
abbrev pub IsFaultBetween : (List ℕ → List ℕ) → List Pair → List Pair → ChangesFault → Type 0
IsFaultBetween digest es fs (errors.Old f) = ⊥
IsFaultBetween digest es fs (errors.New f) = ⊥
IsFaultBetween digest es fs (errors.OldUnread f) = ⊥
IsFaultBetween digest es fs (errors.NewUnread f) = ⊥
IsFaultBetween digest es fs errors.Clash = ¬ IsClashFree digest (nodes digest 2 es ++ nodes digest 2 fs)
IsFaultBetween digest es fs errors.NoMemory = ⊤

-- both files say something, and two nodes of their trees have one CID
pub record IsClashOf (digest : List ℕ → List ℕ) (command : ChangesCommand) (old new : List ℕ) : Type 0 where
  pub before : List Pair
  pub old_records : Records
  pub old_says : IsSaid digest command old before old_records
  pub after : List Pair
  pub new_records : Records
  pub new_says : IsSaid digest command new after new_records
  pub clash : ¬ IsClashFree digest (nodes digest 2 before ++ nodes digest 2 after)

-- The first fault, and of which file: of the new one where the old one says something.
abbrev pub IsFault : (List ℕ → List ℕ) → ChangesCommand → List ℕ → List ℕ → ChangesFault → Type 0
IsFault digest command old new (errors.Old f) = IsFileFault digest command (form_of command.form old) old f
IsFault digest command old new (errors.New f) =
    IsHeard digest command old × IsFileFault digest command (form_of command.form new) new f
IsFault digest command old new (errors.OldUnread f) = ⊤
IsFault digest command old new (errors.NewUnread f) = ⊤
IsFault digest command old new errors.Clash = IsClashOf digest command old new
IsFault digest command old new errors.NoMemory = ⊤

-- a writer's known contents grew by the lines of two files
pub record AppendsTextOf (digest : List ℕ → List ℕ) (command : ChangesCommand) (old new : List ℕ)
    (was is : Option (List ℕ)) : Type 0 where
  pub lines : List ℕ
  pub sliced : Option (List ℕ)
  pub of_files : AreTextsOf digest command old new lines sliced
  pub written : Appends was is lines

-- or by a beginning of them
pub record BeginsTextOf (digest : List ℕ → List ℕ) (command : ChangesCommand) (old new : List ℕ)
    (was is : Option (List ℕ)) : Type 0 where
  pub lines : List ℕ
  pub sliced : Option (List ℕ)
  pub of_files : AreTextsOf digest command old new lines sliced
  pub written : AppendsBeginning was is lines

-- their slice, where one is wanted, was saved
pub record SavesSliceOf (digest : List ℕ → List ℕ) (command : ChangesCommand) (old new : List ℕ) (saved : List ℕ → Type 0)
    : Type 0 where
  pub lines : List ℕ
  pub sliced : Option (List ℕ)
  pub of_files : AreTextsOf digest command old new lines sliced
  pub kept : IfSome sliced saved

-- ---- of inputs that are known or not

-- P holds of two inputs, where both are known
abbrev pub OfInputs : Option (List ℕ) → Option (List ℕ) → (List ℕ → List ℕ → Type 0) → Type 0
OfInputs old new P = IfSome old (λ xs. IfSome new (λ ys. P xs ys))

-- Lines that were made were written, with a writer's known contents before and after, or a beginning of them where the end isn't well.
pub record IsFinish (lines : List ℕ) (was is : Option (List ℕ)) (status : ℕ) : Type 0 where
  pub one_of : (status ≡ 0) ⊎ ((status ≡ 3) ⊎ (status ≡ 4))
  pub done : status ≡ 0 → Appends was is lines
  pub beginning : AppendsBeginning was is lines

-- ---- the exit status

-- a fault of the files that is told
abbrev pub HasFault : (List ℕ → List ℕ) → ChangesCommand → List ℕ → List ℕ → Type 0
HasFault digest command old new =
    (fault : ChangesFault) × (IsFault digest command old new fault) × (status_of fault ≡ 1)

-- At 0 the lines of the files were written; at 1 they have a fault, and nothing was. At any, nothing was or a beginning of those
-- lines.
pub record IsStatusOf (digest : List ℕ → List ℕ) (command : ChangesCommand) (old new was is : Option (List ℕ))
    (status : ℕ) : Type 0 where
  pub one_of : status ≤ 4
  pub done : status ≡ 0 → OfInputs old new (λ xs ys. AppendsTextOf digest command xs ys was is)
  pub faulty : status ≡ 1 → OfInputs old new (HasFault digest command)
  pub nothing : status ≡ 1 → Keeps was is
  pub usage : (status ≡ 2) → ⊥
  pub beginning : OfInputs old new (λ xs ys. Keeps was is ⊎ BeginsTextOf digest command xs ys was is)

-- ---- of words that name the files

-- the lines of the files were written, in the form that the words tell; where that is none nothing is done
abbrev pub IsDoneBy : (List ℕ → List ℕ) → Option ChangesCommand → Option (List ℕ) → Option (List ℕ) → Option (List ℕ)
    → Option (List ℕ) → Type 0
IsDoneBy digest None old new was is = ⊥
IsDoneBy digest (Some command) old new was is = OfInputs old new (λ xs ys. AppendsTextOf digest command xs ys was is)

-- they have none: the form is none, or the files have a fault
abbrev pub IsRefusedBy : (List ℕ → List ℕ) → Option ChangesCommand → Option (List ℕ) → Option (List ℕ) → Type 0
IsRefusedBy digest None old new = ⊤
IsRefusedBy digest (Some command) old new = OfInputs old new (HasFault digest command)

-- nothing was written, or a beginning of the lines
abbrev pub IsBegunBy : (List ℕ → List ℕ) → Option ChangesCommand → Option (List ℕ) → Option (List ℕ) → Option (List ℕ)
    → Option (List ℕ) → Type 0
IsBegunBy digest None old new was is = Keeps was is
IsBegunBy digest (Some command) old new was is = OfInputs old new (λ xs ys. Keeps was is ⊎ BeginsTextOf digest command xs ys was is)

-- the slice of the files was saved, in the file that the words name for it, if they name one
abbrev pub IsSavedBy : (List ℕ → List ℕ) → Option ChangesCommand → Option (List ℕ) → Option (List ℕ) → Option (List ℕ)
    → (List ℕ → List ℕ → Type 0) → Type 0
IsSavedBy digest asked old new name saved =
    IfSome asked (λ command. IfSome name (λ n. OfInputs old new (λ xs ys. SavesSliceOf digest command xs ys (saved n))))

-- The command that the words ask for ended so on the files that they name, of what these hold, as far as that is known.
pub record IsEndOf (digest : List ℕ → List ℕ) (asked : Option ChangesCommand) (old new was is : Option (List ℕ))
    (status : ℕ) : Type 0 where
  pub one_of : status ≤ 4
  pub done : status ≡ 0 → IsDoneBy digest asked old new was is
  pub faulty : status ≡ 1 → IsRefusedBy digest asked old new
  pub nothing : status ≡ 1 → Keeps was is
  pub usage : (status ≡ 2) → ⊥
  pub beginning : IsBegunBy digest asked old new was is

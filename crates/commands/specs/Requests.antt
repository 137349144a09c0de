-- What a request writes.
use Rattle.std.specs.Prelude.{⊤, [], ◌≡◌, ◌⊎◌, ℕ, false, List, Option, Some, None, IfSome, is_ok}
use Rattle.std.specs.Io.KnownBytes.{Appends, Keeps}
use Rattle.spec.specs.Stamps.{is_did}
use Rattle.console.specs.Written.{AppendsBeginning, AppendsText}
use Rattle.tree_command.specs.TreeText.{listing, text_or_nothing}
use Rattle.explain_command.specs.Explained.{explanation, word_of}
use Rattle.commands.specs.declared.command_line.Request.{Request}
use Rattle.commands.specs.declared.command_line.Request.TheVariants as requests
use Rattle.repository_commands.specs.Commands.{HasFaultyWord as IsFaultyCommand, reasons_of, texts_of}
use Rattle.repository_commands.specs.Outcomes.{IsFaulty as IsFaultyOn}
use Rattle.repository_commands.specs.Texts.{text_or_nothing as repository_text_or_nothing}
use Rattle.change_commands.specs.Commands.{HasFaultyWord as IsFaultyChange, reasons_of as change_reasons_of, texts_of as change_texts_of}
use Rattle.event_commands.specs.Commands.{HasFaultyWord as HasFaultyEventWord, reasons_of as event_reasons_of, texts_of as event_texts_of}
use Rattle.event_commands.specs.Outcomes.{IsFaulty as AreFaultyMessages}
use Rattle.event_commands.specs.Texts.{text_or_nothing as event_text_or_nothing}
use Rattle.export_commands.specs.Outcomes.{AppendsTextOf, BeginsTextOf, HasFault}
use Rattle.difference_commands.specs.Outcomes.{IsBegunBy, IsDoneBy, IsRefusedBy}
use Rattle.difference_commands.specs.Words.{command_of}
use Rattle.run_command.specs.Outcomes.{IsFaulty, Reports, ReportsBeginning}

-- what the files of names hold, as far as that is known
abbrev pub Holding : Type 0
Holding = List ℕ → Option (List ℕ)

-- What was asked for is done, with files of names, on an input that is known or not, and with a writer's
-- known contents before and after: the listing of the tree, the text of a command on one repository, on a
-- change of one or on messages, what a command tells of the repository that the input is the export of,
-- what two files differ by, or the report of a run of the script that the input is; or what there is to say
-- of a fault.
-- What help shows is said nowhere.
abbrev pub IsDone : (D : Type 0) → (List ℕ → List ℕ) → Request → Holding → Option (List ℕ)
    → Option (List ℕ) → Option (List ℕ) → Type 0
IsDone D digest (requests.Tree options) holds input old new =
    IfSome input (λ xs. AppendsText old new (listing digest options xs))
IsDone D digest (requests.OnRepository command) holds input old new =
    IfSome input (λ xs. AppendsText old new (texts_of digest command xs))
IsDone D digest (requests.OnChange command) holds input old new =
    IfSome input (λ xs. AppendsText old new (change_texts_of digest command xs))
IsDone D digest (requests.OnMessages command) holds input old new =
    IfSome input (λ xs. AppendsText old new (event_texts_of digest command xs))
IsDone D digest (requests.OnExport command) holds input old new =
    IfSome input (λ file. AppendsTextOf digest command file old new)
IsDone D digest (requests.OnDifference words) holds input old new =
    IsDoneBy digest (command_of words) (holds words.old.now) (holds words.new.now) old new
IsDone D digest (requests.Run command) holds input old new =
    IfSome input (Reports D digest command.settings command.did.now old new)
IsDone D digest (requests.Explain command) holds input old new =
    Appends old new (explanation (word_of command.name))
IsDone D digest requests.Help holds input old new = ⊤

-- The input has no such text: of the tree; of the command, for a reason that it may have; of an export,
-- as the file has a first fault; of two files; or of a run, as the DID or the script is faulty, or the
-- host didn't close; or no fault has the name.
abbrev pub IsRefused : (D A : Type 0) → (List ℕ → List ℕ) → Request → Holding → Option (List ℕ)
    → Type 0
IsRefused D A digest (requests.Tree options) holds input =
    IfSome input (λ xs. is_ok (listing digest options xs) ≡ false)
IsRefused D A digest (requests.OnRepository command) holds input =
    IsFaultyOn {D = D} {A = A} (texts_of digest command) (reasons_of digest command) input
IsRefused D A digest (requests.OnChange command) holds input =
    IsFaultyOn {D = D} {A = A} (change_texts_of digest command) (change_reasons_of digest command) input
IsRefused D A digest (requests.OnMessages command) holds input =
    AreFaultyMessages {D = D} (event_texts_of digest command) (event_reasons_of digest command) input
IsRefused D A digest (requests.OnExport command) holds input = IfSome input (HasFault digest command)
IsRefused D A digest (requests.OnDifference words) holds input =
    IsRefusedBy digest (command_of words) (holds words.old.now) (holds words.new.now)
IsRefused D A digest (requests.Run command) holds input =
    IfSome input (IsFaulty D digest command.settings command.did.now)
IsRefused D A digest (requests.Explain command) holds input = explanation (word_of command.name) ≡ []
IsRefused D A digest requests.Help holds input = ⊥

-- A beginning of the text was written, and nothing where there is none.
abbrev pub IsBegun : (D : Type 0) → (List ℕ → List ℕ) → Request → Holding → Option (List ℕ)
    → Option (List ℕ) → Option (List ℕ) → Type 0
IsBegun D digest (requests.Tree options) holds input old new = IfSome input (λ xs.
    AppendsBeginning old new (text_or_nothing (listing digest options xs)))
IsBegun D digest (requests.OnRepository command) holds input old new = IfSome input (λ xs.
    AppendsBeginning old new (repository_text_or_nothing (texts_of digest command xs)))
IsBegun D digest (requests.OnChange command) holds input old new = IfSome input (λ xs.
    AppendsBeginning old new (repository_text_or_nothing (change_texts_of digest command xs)))
IsBegun D digest (requests.OnMessages command) holds input old new = IfSome input (λ xs.
    AppendsBeginning old new (event_text_or_nothing (event_texts_of digest command xs)))
IsBegun D digest (requests.OnExport command) holds input old new = IfSome input (λ file.
    Keeps old new ⊎ BeginsTextOf digest command file old new)
IsBegun D digest (requests.OnDifference words) holds input old new =
    IsBegunBy digest (command_of words) (holds words.old.now) (holds words.new.now) old new
IsBegun D digest (requests.Run command) holds input old new = IfSome input (λ xs.
    Keeps old new ⊎ ReportsBeginning D digest command.settings command.did.now old new xs)
IsBegun D digest (requests.Explain command) holds input old new =
    AppendsBeginning old new (explanation (word_of command.name))
IsBegun D digest requests.Help holds input old new = ⊤

-- A word of the request is faulty by the test that comes before its input is read: a DID, a revision, a
-- signature, the text of a root, a key or a form.
abbrev pub HasFaultyWord : Request → Type 0
HasFaultyWord (requests.Tree options) = ⊥
HasFaultyWord (requests.OnRepository command) = IsFaultyCommand command
HasFaultyWord (requests.OnChange command) = IsFaultyChange command
HasFaultyWord (requests.OnMessages command) = HasFaultyEventWord command
HasFaultyWord (requests.OnExport command) = ⊥
HasFaultyWord (requests.OnDifference words) = command_of words ≡ None
HasFaultyWord (requests.Run command) = is_did command.did.now ≡ false
HasFaultyWord (requests.Explain command) = ⊥
HasFaultyWord requests.Help = ⊥

-- A run ends so where a word of its request is faulty: that is told, or memory was refused; or the file
-- that the words name, which is opened first, can't be.
abbrev pub EndsFaultyWord : Option (List ℕ) → ℕ → Type 0
EndsFaultyWord None status = (status ≡ 1) ⊎ (status ≡ 3)
EndsFaultyWord (Some file) status = (status ≡ 1) ⊎ ((status ≡ 3) ⊎ (status ≡ 4))

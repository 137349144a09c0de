-- Some command lines, and what the definitions make of them.
use Rattle.std.specs.Prelude.{◌≡◌, List, [], ◌∷◌, None, Some, codes}
use Rattle.clap.specs.Kinds.{Kinds}
use Rattle.clap.specs.Walk.{Text}
use Rattle.clap.specs.Faults.{fault_of}
use Rattle.clap.specs.declared.error.kind.ErrorKind.TheVariants as kinds
use Rattle.tree_command.specs.declared.keys.Keys.TheVariants as keys
use Rattle.tree_command.specs.declared.options.TreeOptions.{TreeOptions}
use Rattle.commands.specs.CommandLine.{IsAskedBy, file_of_words, msthost}
use Rattle.commands.specs.declared.command_line.Request.{Request}
use Rattle.commands.specs.declared.command_line.Request.TheVariants as requests

-- a command line of the program
abbrev pub line : List Text → List Text
line words = codes "msthost" ∷ words

abbrev pub faults : List Text → Kinds
faults words = fault_of msthost (line words)

-- `tree --bits 3` has no fault, and asks for the tree of any keys with 3 bits, and for nothing else
abbrev pub AsksForThreeBits : Type 0
AsksForThreeBits =
    let words = codes "tree" ∷ codes "--bits" ∷ codes "3" ∷ [] in
    (faults words ≡ []) × ((request : Request) → IsAskedBy (line words) request
    → (options : TreeOptions) × (request ≡ requests.Tree options) × (options.bits.number ≡ 3)
    × (options.keys ≡ keys.Any))

-- `tree --paths` asks for the tree of a repository's keys alone, with 2 bits
abbrev pub AsksForPaths : Type 0
AsksForPaths =
    let words = codes "tree" ∷ codes "--paths" ∷ [] in
    (faults words ≡ []) × ((request : Request) → IsAskedBy (line words) request
    → (options : TreeOptions) × (request ≡ requests.Tree options) × (options.bits.number ≡ 2)
    × (options.keys ≡ keys.Paths))

-- `tree --paths FILE` has no fault, and names its file; `tree --paths` names none, and two are wrong
abbrev pub NamesAFile : Type 0
NamesAFile = (faults (codes "tree" ∷ codes "--paths" ∷ codes "list.txt" ∷ []) ≡ [])
    × (file_of_words (line (codes "tree" ∷ codes "--paths" ∷ codes "list.txt" ∷ []))
    ≡ Some (codes "list.txt"))
    × (file_of_words (line (codes "tree" ∷ codes "--paths" ∷ [])) ≡ None)
    × (faults (codes "tree" ∷ codes "a.txt" ∷ codes "b.txt" ∷ []) ≡ kinds.UnknownArgument ∷ [])

-- help and the version are asked for
abbrev pub AsksToBeShown : Type 0
AsksToBeShown = (faults (codes "--help" ∷ []) ≡ kinds.DisplayHelp ∷ [])
    × (faults (codes "--version" ∷ []) ≡ kinds.DisplayVersion ∷ [])

-- no command, and a number out of its range
abbrev pub AreWrong : Type 0
AreWrong = (faults [] ≡ kinds.MissingSubcommand ∷ [])
    × (faults (codes "tree" ∷ codes "--bits=9" ∷ []) ≡ kinds.ValueValidation ∷ [])

use Rattle.std.proofs.Common.{◌≡◌, [], ◌∷◌, ℕ, List, ap, get_or, refl, rules, codes, arith}
use Rattle.std.specs.Prelude.{IsSomeAnd}
use Rattle.clap.proofs.OnLiterals.{clap_on_literals}
use Rattle.clap.specs.Words.{Text, subcommand_of}
use Rattle.tree_command.specs.declared.keys.Keys.TheVariants as keys
use Rattle.tree_command.specs.declared.options.TreeOptions.{TreeOptions}
use Rattle.repository_commands.specs.declared.words.RepositoryCommand.TheVariants as commands
use Rattle.change_commands.specs.declared.words.ChangeCommand.TheVariants as changes
use Rattle.event_commands.specs.declared.command.EventCommand.TheVariants as messages
use Rattle.event_commands.specs.declared.command.Subject.TheVariants as subjects
use Rattle.export_commands.specs.declared.command.ExportCommand.TheVariants as exports
use Rattle.commands.specs.declared.command_line.Request.{Request}
use Rattle.commands.specs.declared.command_line.Request.TheVariants as requests
use Rattle.commands.specs.CommandLine.{IsNamed, msthost}
use Rattle.commands.proofs.laws.some_command_lines.Goals as goal

words : List Text
words = codes "msthost" ∷ codes "tree" ∷ codes "--bits" ∷ codes "3" ∷ []

of_paths : List Text
of_paths = codes "msthost" ∷ codes "tree" ∷ codes "--paths" ∷ []

-- `cc` counts down from the letters, and comes to no end
tree_is_not_help : codes "tree" ≡ codes "help" → ⊥
tree_is_not_help e = let first : 116 ≡ 104 = ap (λ (xs : List ℕ). get_or xs 0 0) e in omega (arith, first)

tree_is_not_changes : codes "tree" ≡ codes "changes" → ⊥
tree_is_not_changes e = let first : 116 ≡ 99 = ap (λ (xs : List ℕ). get_or xs 0 0) e in omega (arith, first)

only : (request : Request) → IsSomeAnd (subcommand_of msthost words) (λ c. IsNamed c.0 c.1 request)
    → (options : TreeOptions) × (request ≡ requests.Tree options) × (options.bits.number ≡ 3) × (options.keys ≡ keys.Any)
unfolding msthost clap_on_literals words
only (requests.Tree options) is = (options, refl, is.1 3 (search rules) (omega arith, omega arith), is.2.any refl)
only (requests.Explain command) is = absurd (cc)
only requests.Help is = absurd (tree_is_not_help is)
only (requests.OnRepository (commands.Car did rev form)) is = absurd (cc)
only (requests.OnRepository (commands.SignedCar did rev sig form)) is = absurd (cc)
only (requests.OnRepository (commands.Prove key form)) is = absurd (cc)
only (requests.OnRepository (commands.Verify root key)) is = absurd (cc)
only (requests.OnChange (changes.Prove direction form)) is = absurd (cc)
only (requests.OnChange (changes.Verify direction before after)) is = absurd (cc)
only (requests.OnMessages (messages.Write subjects.Batch words form)) is = absurd (cc)
only (requests.OnMessages (messages.Write subjects.State words form)) is = absurd (cc)
only (requests.OnMessages (messages.Check previous form)) is = absurd (cc)
only (requests.OnExport exports.Check) is = absurd (cc)
only (requests.OnExport (exports.Records values)) is = absurd (cc)
only (requests.OnExport exports.Commit) is = absurd (cc)
only (requests.OnDifference words) is = absurd (tree_is_not_changes is.name_is)
only (requests.Run command) is = absurd (cc)

only_paths : (request : Request) → IsSomeAnd (subcommand_of msthost of_paths) (λ c. IsNamed c.0 c.1 request)
    → (options : TreeOptions) × (request ≡ requests.Tree options) × (options.bits.number ≡ 2) × (options.keys ≡ keys.Paths)
unfolding msthost clap_on_literals of_paths
only_paths (requests.Tree options) is = (options, refl, is.1 2 (search rules) (omega arith, omega arith), is.2.paths refl)
only_paths (requests.Explain command) is = absurd (cc)
only_paths requests.Help is = absurd (tree_is_not_help is)
only_paths (requests.OnRepository (commands.Car did rev form)) is = absurd (cc)
only_paths (requests.OnRepository (commands.SignedCar did rev sig form)) is = absurd (cc)
only_paths (requests.OnRepository (commands.Prove key form)) is = absurd (cc)
only_paths (requests.OnRepository (commands.Verify root key)) is = absurd (cc)
only_paths (requests.OnChange (changes.Prove direction form)) is = absurd (cc)
only_paths (requests.OnChange (changes.Verify direction before after)) is = absurd (cc)
only_paths (requests.OnMessages (messages.Write subjects.Batch words form)) is = absurd (cc)
only_paths (requests.OnMessages (messages.Write subjects.State words form)) is = absurd (cc)
only_paths (requests.OnMessages (messages.Check previous form)) is = absurd (cc)
only_paths (requests.OnExport exports.Check) is = absurd (cc)
only_paths (requests.OnExport (exports.Records values)) is = absurd (cc)
only_paths (requests.OnExport exports.Commit) is = absurd (cc)
only_paths (requests.OnDifference words) is = absurd (tree_is_not_changes is.name_is)
only_paths (requests.Run command) is = absurd (cc)

pub returns-clause-paths : goal.returns-clause-paths
unfolding msthost clap_on_literals of_paths
returns-clause-paths c = (refl, λ request asked. only_paths request asked.found)

pub returns-clause-asked : goal.returns-clause-asked
unfolding msthost clap_on_literals words
returns-clause-asked c = (refl, λ request asked. only request asked.found)

pub returns-clause-shown : goal.returns-clause-shown
unfolding msthost clap_on_literals
returns-clause-shown c = (refl, refl)

pub returns-clause-wrong : goal.returns-clause-wrong
unfolding msthost clap_on_literals
returns-clause-wrong c = (refl, refl)

pub returns-clause-file : goal.returns-clause-file
unfolding msthost clap_on_literals
returns-clause-file c = (refl, refl, refl, refl)

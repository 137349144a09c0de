-- Which command a name and its words ask for.
use Rattle.std.specs.Prelude.{◌≡◌, ◌≢◌, ℕ, List, [], ◌∷◌, Some, None, codes}
use Rattle.clap.specs.Simple.{App, Shape, new_rule, new_shape}
use Rattle.clap.specs.Words.{with_subcommand}
use Rattle.clap.specs.Walk.{Row, Rule, first_of}
use Rattle.console.specs.FileWords.{with_file}
use Rattle.console.specs.Words.{required_rule, word_or}
use Rattle.record_forms.specs.Options.{IsFormOf, json_rule}
use Rattle.repository_commands.specs.declared.words.RepositoryCommand.{RepositoryCommand}
use Rattle.repository_commands.specs.declared.words.RepositoryCommand.TheVariants as commands

-- `--id TEXT`, and another text where there is none
abbrev pub option_rule : List ℕ → List ℕ → Rule
option_rule id other = record (new_rule id) {
  long = Some id;
  value_names = 1;
  defaults = other ∷ [];
}

-- `--id TEXT`, which may be left out
abbrev pub optional_rule : List ℕ → Rule
optional_rule id = record (new_rule id) { long = Some id; value_names = 1 }

-- what clap reads of each command (`--help` comes with each)
abbrev pub car_shape : Shape
car_shape = record (new_shape (codes "car")) {
  rules = option_rule (codes "did") (codes "did:web:localhost")
      ∷ option_rule (codes "rev") (codes "2222222222222") ∷ optional_rule (codes "sig") ∷ json_rule
      ∷ [];
}

abbrev pub prove_shape : Shape
prove_shape = record (new_shape (codes "prove")) {
  rules = required_rule (codes "key") ∷ json_rule ∷ [];
}

abbrev pub verify_shape : Shape
verify_shape = record (new_shape (codes "verify")) {
  rules = required_rule (codes "root") ∷ required_rule (codes "key") ∷ [];
}

-- a program with these commands, each of which may be given a file
abbrev pub with_commands : App → App
with_commands app = with_subcommand (with_subcommand (with_subcommand app (with_file car_shape))
    (with_file prove_shape)) (with_file verify_shape)

-- The command is the one of this name, and has what the words say. Where there is no DID or no
-- revision, it has the program's own (a choice of this project). With a signature it is the command that
-- writes a signed commit.
abbrev pub IsOfWords : List ℕ → List Row → RepositoryCommand → Type 0
IsOfWords name rows (commands.Car did rev form) = (name ≡ codes "car")
    × (did.now ≡ word_or (codes "did:web:localhost") rows (codes "did"))
    × (rev.now ≡ word_or (codes "2222222222222") rows (codes "rev"))
    × (None ≡ first_of (codes "sig") rows)
    × IsFormOf rows form
IsOfWords name rows (commands.SignedCar did rev sig form) = (name ≡ codes "car")
    × (did.now ≡ word_or (codes "did:web:localhost") rows (codes "did"))
    × (rev.now ≡ word_or (codes "2222222222222") rows (codes "rev"))
    × (Some sig.now ≡ first_of (codes "sig") rows)
    × IsFormOf rows form
IsOfWords name rows (commands.Prove key form) = (name ≡ codes "prove")
    × (key.now ≡ word_or [] rows (codes "key"))
    × IsFormOf rows form
IsOfWords name rows (commands.Verify root key) = (name ≡ codes "verify")
    × (root.now ≡ word_or [] rows (codes "root"))
    × (key.now ≡ word_or [] rows (codes "key"))

-- no command on one repository has this name
abbrev pub IsOtherName : List ℕ → Type 0
IsOtherName name = (name ≢ codes "car") × (name ≢ codes "prove") × (name ≢ codes "verify")

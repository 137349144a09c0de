-- What the words of the command say.
use Rattle.std.specs.Prelude.{◌≡◌, ◌≤◌, ℕ, pos, List, [], ◌∷◌, Some, codes, unwrap_or}
use Rattle.clap.specs.Simple.{Shape, new_rule, new_shape}
use Rattle.clap.specs.Walk.{Row, Rule, first_of, one_of}
use Rattle.clap.specs.declared.builder.value_parser.ValueParser.{ValueParser}
use Rattle.clap.specs.declared.builder.value_parser.ValueParser.TheVariants as parsers
use Rattle.console.specs.Numbers.{IsNumberOf}
use Rattle.record_forms.specs.Options.{IsFormOf, json_rule}
use Rattle.run_command.specs.declared.settings.Settings.{Settings}

-- `--id NUMBER`, as the parser takes it, and another one where there is none
abbrev pub number_rule : List ℕ → ValueParser → List ℕ → Rule
number_rule id parser other = record (new_rule id) {
  long = Some id;
  value_names = 1;
  parser = Some parser;
  defaults = other ∷ [];
}

-- `--did DID`
abbrev pub did_rule : Rule
did_rule = record (new_rule (codes "did")) {
  long = Some (codes "did");
  value_names = 1;
  defaults = codes "did:web:localhost" ∷ [];
}

-- a number from 1 to the most
abbrev pub up_to : ℕ → ValueParser
up_to most = parsers.Signed (pos 1) (pos most)

-- what clap reads of the command `run` (`--help` comes with each command)
abbrev pub run_shape : Shape
run_shape = record (new_shape (codes "run")) {
  rules = number_rule (codes "repos") (up_to 1024) (codes "1")
      ∷ number_rule (codes "workers") (up_to 64) (codes "1")
      ∷ number_rule (codes "queue") (up_to 65536) (codes "1024") ∷ did_rule ∷ json_rule ∷ [];
}

-- the DID that the words give, or the program's own where there is none (a choice of this project)
abbrev pub did_of_words : List Row → List ℕ
did_of_words rows = unwrap_or (first_of (codes "did") rows) (codes "did:web:localhost")

-- The settings are those that the words give: where these give numbers in their ranges, or none, they have these numbers, and one
-- repository and one worker where there is none, and room for 1,024 notices (a choice of this project). Then they have the form of
-- records too that the words ask for.
abbrev pub AreSettingsOf : List Row → Settings → Type 0
AreSettingsOf rows s = (repos workers queue : ℕ)
    → IsNumberOf 32 1 (one_of (codes "repos") rows) repos → (1 ≤ repos) × (repos ≤ 1024)
    → IsNumberOf 32 1 (one_of (codes "workers") rows) workers → (1 ≤ workers) × (workers ≤ 64)
    → IsNumberOf 32 1024 (one_of (codes "queue") rows) queue → (1 ≤ queue) × (queue ≤ 65536)
    → (s.repos ≡ repos) × (s.workers ≡ workers) × (s.queue ≡ queue) × IsFormOf rows s.form

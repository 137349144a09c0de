-- Words of a command line by their ids.
use Rattle.std.specs.Prelude.{ℕ, true, List, unwrap_or}
use Rattle.clap.specs.Simple.{new_rule}
use Rattle.clap.specs.Walk.{Row, Rule, first_of}

-- a word that must be there
abbrev pub required_rule : List ℕ → Rule
required_rule id = record (new_rule id) { value_names = 1; required = true }

-- the text of the word with this id, or another text where there is none
abbrev pub word_or : List ℕ → List Row → List ℕ → List ℕ
word_or other rows id = unwrap_or (first_of id rows) other

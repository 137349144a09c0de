-- What the words of the command say.
use Rattle.std.specs.Prelude.{◌≡◌, ◌≤◌, ℕ, pos, List, [], ◌∷◌, Some, codes}
use Rattle.clap.specs.Simple.{Shape, new_rule, new_shape}
use Rattle.clap.specs.Walk.{Row, Rule, one_of}
use Rattle.clap.specs.declared.builder.action.ArgAction.TheVariants.{SetTrue}
use Rattle.clap.specs.declared.builder.value_parser.ValueParser.TheVariants as parsers
use Rattle.console.specs.Numbers.{IsNumberOf}
use Rattle.tree_command.specs.declared.bits.Bits.{Bits}
use Rattle.tree_command.specs.declared.keys.Keys.{Keys}
use Rattle.tree_command.specs.declared.keys.Keys.TheVariants as keys

-- `--bits B`: a number from 1 to 8, and 2 where there is none
abbrev pub bits_rule : Rule
bits_rule = record (new_rule (codes "bits")) {
  long = Some (codes "bits");
  value_names = 1;
  parser = Some (parsers.Signed (pos 1) (pos 8));
  defaults = codes "2" ∷ [];
}

-- `--paths`: there or not
abbrev pub paths_rule : Rule
paths_rule = record (new_rule (codes "paths")) { long = Some (codes "paths"); action = Some SetTrue }

-- what clap reads of the command `tree` (`--help` comes with each command)
abbrev pub tree_shape : Shape
tree_shape = record (new_shape (codes "tree")) { rules = bits_rule ∷ paths_rule ∷ [] }

-- where the words give a number of bits from 1 to 8, it is this one, and 2 where they give none
abbrev pub HasNumberOf : List Row → Bits → Type 0
HasNumberOf rows bits = (n : ℕ) → IsNumberOf 8 2 (one_of (codes "bits") rows) n
    → (1 ≤ n) × (n ≤ 8) → bits.number ≡ n

-- where `--paths` is among the words a repository's keys alone are taken, and else any
pub record AreKeysOf (rows : List Row) (taken : Keys) : Type 0 where
  pub paths : one_of (codes "paths") rows ≡ Some (codes "true") → taken ≡ keys.Paths
  pub any : one_of (codes "paths") rows ≡ Some (codes "false") → taken ≡ keys.Any

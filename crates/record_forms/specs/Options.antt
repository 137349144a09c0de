-- What the option `--json` of a command says.
use Rattle.std.specs.Prelude.{◌≡◌, List, Some, codes}
use Rattle.clap.specs.Simple.{new_rule}
use Rattle.clap.specs.Walk.{Row, Rule, one_of}
use Rattle.clap.specs.declared.builder.action.ArgAction.TheVariants.{SetTrue}
use Rattle.record_forms.specs.declared.form.Form.{Form}
use Rattle.record_forms.specs.declared.form.Form.TheVariants as forms

-- `--json`: there or not
abbrev pub json_rule : Rule
json_rule = record (new_rule (codes "json")) { long = Some (codes "json"); action = Some SetTrue }

-- where `--json` is among the words records stand as JSON, and else in hexadecimal
pub record IsFormOf (rows : List Row) (form : Form) : Type 0 where
  pub json : one_of (codes "json") rows ≡ Some (codes "true") → form ≡ forms.Json
  pub hex : one_of (codes "json") rows ≡ Some (codes "false") → form ≡ forms.Hex

-- What clap reads of a command with one more argument.
use Rattle.std.proofs.Common.{◌∙◌, ◌≡◌, ap, ap₂, false}
use Rattle.std.specs.Prelude.{◌||◌, IfOk, Result}
use Rattle.std.proofs.lemmas.Result.{IfOk-weaker}
use Rattle.clap.specs.Words.{AddsArg, App, Rule, app_of, rule_of, shape_of, with_rule}
use Rattle.clap.specs.declared.builder.arg.Arg.{Arg}
use Rattle.clap.specs.declared.builder.command.Command.{Command}
use Rattle.clap.specs.declared.builder.command.Command.TheViews.{out-Command as fields_of}

-- the command reads so, with no global argument
abbrev pub ReadsAs : Command → App → Type 0
ReadsAs c app = (app_of c ≡ app) × ((fields_of c).has_globals ≡ false)

pub with_arg : (old new : Command) (arg : Arg) (app : App) (rule : Rule) → AddsArg old arg new → ReadsAs old app
    → rule_of arg ≡ rule → arg.global ≡ false → ReadsAs new (with_rule app rule)
with_arg old new arg app rule adds is made local = (
  adds.shape local ∙ ap₂ with_rule is.0 made,
  adds.globals ∙ ap₂ (λ a b. a || b) is.1 local,
)

-- the clauses of what makes a command alone
pub shaped : {E : Type 0} (r : Result Command E) (app : App) → IfOk r (λ c. ReadsAs c app) → IfOk r (λ c. shape_of c ≡ app.top)
shaped r app = IfOk-weaker r _ _ (λ c is. ap (λ (a : App). a.top) is.0)

pub local : {E : Type 0} (r : Result Command E) (app : App) → IfOk r (λ c. ReadsAs c app) → IfOk r (λ c. (fields_of c).has_globals ≡ false)
local r app = IfOk-weaker r _ _ (λ c is. is.1)

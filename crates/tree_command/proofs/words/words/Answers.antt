use Rattle.std.proofs.Common.{◌∙◌, ◌≡◌, [], ap, ap₂, codes, false, rules}
use Rattle.std.specs.Prelude.{◌||◌, IfOk, Result}
use Rattle.std.proofs.lemmas.Result.{IfOk-weaker}
use Rattle.clap.specs.Words.{AddsArg, App, Rule, app_of, new_app, rule_of, shape_of, with_rule}
use Rattle.clap.specs.declared.builder.arg.Arg.{Arg}
use Rattle.clap.specs.declared.builder.command.Command.{Command}
use Rattle.clap.specs.declared.builder.command.Command.TheViews.{out-Command as fields_of}
use Rattle.tree_command.specs.Words.{tree_shape}
use Rattle.tree_command.proofs.words.words.Goals as goal

-- the command reads so, with no global argument
abbrev ReadsAs : Command → App → Type 0
ReadsAs c app = (app_of c ≡ app) × ((fields_of c).has_globals ≡ false)

with_arg : (old new : Command) (arg : Arg) (app : App) (rule : Rule) → AddsArg old arg new → ReadsAs old app
    → rule_of arg ≡ rule → arg.global ≡ false → ReadsAs new (with_rule app rule)
with_arg old new arg app rule adds is made local = (
  adds.shape local ∙ ap₂ with_rule is.0 made,
  adds.globals ∙ ap₂ (λ a b. a || b) is.1 local,
)

-- the clauses of what makes a command alone
shaped : {E : Type 0} (r : Result Command E) (app : App) → IfOk r (λ c. ReadsAs c app) → IfOk r (λ c. shape_of c ≡ app.top)
shaped r app = IfOk-weaker r _ _ (λ c is. ap (λ (a : App). a.top) is.0)

local : {E : Type 0} (r : Result Command E) (app : App) → IfOk r (λ c. ReadsAs c app) → IfOk r (λ c. (fields_of c).has_globals ≡ false)
local r app = IfOk-weaker r _ _ (λ c is. is.1)

pub returns : goal.returns
returns c =
    let app : App = record { top = tree_shape; subs = [] } in
    let none : ReadsAs c.after_help.result (new_app (codes "tree")) = (search rules, search rules) in
    let one = with_arg _ _ c.bits_word.result _ _ c.in_ok-arg.ensures none c.bits_word.ensures.rule c.bits_word.ensures.local in
    let two : IfOk c.arg-2.result (λ r. ReadsAs r app) = IfOk-weaker c.arg-2.result _ _
    (λ r adds. with_arg _ r c.paths_word.result _ _ adds one c.paths_word.ensures.rule c.paths_word.ensures.local) c.arg-2.ensures in
    record { shape = shaped c.arg-2.result app two; local = local c.arg-2.result app two }

use Rattle.std.proofs.Common.{[], codes, rules}
use Rattle.std.specs.Prelude.{IfOk}
use Rattle.std.proofs.lemmas.Result.{IfOk-weaker}
use Rattle.clap.specs.Words.{App, new_app}
use Rattle.repository_commands.specs.Words.{car_shape}
use Rattle.record_forms.proofs.Arguments.{ReadsAs, local, shaped, with_arg}
use Rattle.repository_commands.proofs.words.car_words.Goals as goal

pub returns : goal.returns
returns c =
    let app : App = record { top = car_shape; subs = [] } in
    let none : ReadsAs c.after_help.result (new_app (codes "car")) = (search rules, search rules) in
    let one = with_arg _ _ c.option.result _ _ c.in_ok-arg.ensures none c.option.ensures.rule c.option.ensures.local in
    let two = with_arg _ _ c.option-2.result _ _ c.in_ok-arg-2.ensures one c.option-2.ensures.rule c.option-2.ensures.local in
    let three = with_arg _ _ c.optional.result _ _ c.in_ok-arg-3.ensures two c.optional.ensures.rule c.optional.ensures.local in
    let four : IfOk c.arg-4.result (λ r. ReadsAs r app) = IfOk-weaker c.arg-4.result _ _
    (λ r adds. with_arg _ r c.json_option.result _ _ adds three c.json_option.ensures.rule c.json_option.ensures.local)
    c.arg-4.ensures in
    record { shape = shaped c.arg-4.result app four; local = local c.arg-4.result app four }

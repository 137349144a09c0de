use Rattle.std.proofs.Common.{[], codes, rules}
use Rattle.std.specs.Prelude.{IfOk}
use Rattle.std.proofs.lemmas.Result.{IfOk-weaker}
use Rattle.clap.specs.Words.{App, new_app}
use Rattle.record_forms.proofs.Arguments.{ReadsAs, local, shaped, with_arg}
use Rattle.event_commands.specs.Words.{check_event_shape}
use Rattle.event_commands.proofs.words.check_event_words.Goals as goal

pub returns : goal.returns
returns c =
    let app : App = record { top = check_event_shape; subs = [] } in
    let none : ReadsAs c.after_help.result (new_app (codes "check-event")) = (search rules, search rules) in
    let one = with_arg _ _ c.required.result _ _ c.in_ok-arg.ensures none c.required.ensures.rule c.required.ensures.local in
    let two : IfOk c.arg-2.result (λ r. ReadsAs r app) = IfOk-weaker c.arg-2.result _ _
    (λ r adds. with_arg _ r c.operations_option.result _ _ adds one c.operations_option.ensures.rule c.operations_option.ensures.local)
    c.arg-2.ensures in
    record { shape = shaped c.arg-2.result app two; local = local c.arg-2.result app two }

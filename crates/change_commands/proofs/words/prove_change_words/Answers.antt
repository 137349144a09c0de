use Rattle.std.proofs.Common.{[], codes, rules}
use Rattle.std.specs.Prelude.{IfOk}
use Rattle.std.proofs.lemmas.Result.{IfOk-weaker}
use Rattle.clap.specs.Words.{App, new_app}
use Rattle.record_forms.proofs.Arguments.{ReadsAs, local, shaped, with_arg}
use Rattle.change_commands.specs.Words.{prove_change_shape}
use Rattle.change_commands.proofs.words.prove_change_words.Goals as goal

pub returns : goal.returns
returns c =
    let app : App = record { top = prove_change_shape; subs = [] } in
    let none : ReadsAs c.after_help.result (new_app (codes "prove-change")) = (search rules, search rules) in
    let one = with_arg _ _ c.inversion_option.result _ _ c.in_ok-arg.ensures none c.inversion_option.ensures.rule c.inversion_option.ensures.local in
    let two : IfOk c.arg-2.result (λ r. ReadsAs r app) = IfOk-weaker c.arg-2.result _ _
    (λ r adds. with_arg _ r c.json_option.result _ _ adds one c.json_option.ensures.rule c.json_option.ensures.local)
    c.arg-2.ensures in
    record { shape = shaped c.arg-2.result app two; local = local c.arg-2.result app two }

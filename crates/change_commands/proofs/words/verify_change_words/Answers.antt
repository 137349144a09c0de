use Rattle.std.proofs.Common.{[], codes, rules}
use Rattle.std.specs.Prelude.{IfOk}
use Rattle.std.proofs.lemmas.Result.{IfOk-weaker}
use Rattle.clap.specs.Words.{App, new_app}
use Rattle.record_forms.proofs.Arguments.{ReadsAs, local, shaped, with_arg}
use Rattle.change_commands.specs.Words.{verify_change_shape}
use Rattle.change_commands.proofs.words.verify_change_words.Goals as goal

pub returns : goal.returns
returns c =
    let app : App = record { top = verify_change_shape; subs = [] } in
    let none : ReadsAs c.after_help.result (new_app (codes "verify-change")) = (search rules, search rules) in
    let one = with_arg _ _ c.required.result _ _ c.in_ok-arg.ensures none c.required.ensures.rule c.required.ensures.local in
    let two = with_arg _ _ c.required-2.result _ _ c.in_ok-arg-2.ensures one c.required-2.ensures.rule c.required-2.ensures.local in
    let three : IfOk c.arg-3.result (λ r. ReadsAs r app) = IfOk-weaker c.arg-3.result _ _
    (λ r adds. with_arg _ r c.inversion_option.result _ _ adds two c.inversion_option.ensures.rule c.inversion_option.ensures.local)
    c.arg-3.ensures in
    record { shape = shaped c.arg-3.result app three; local = local c.arg-3.result app three }

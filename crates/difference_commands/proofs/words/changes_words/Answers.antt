use Rattle.std.proofs.Common.{[], codes, rules}
use Rattle.std.specs.Prelude.{IfOk}
use Rattle.std.proofs.lemmas.Result.{IfOk-weaker}
use Rattle.clap.specs.Words.{App, new_app}
use Rattle.record_forms.proofs.Arguments.{ReadsAs, local, shaped, with_arg}
use Rattle.difference_commands.specs.Words.{changes_shape}
use Rattle.difference_commands.proofs.words.changes_words.Goals as goal

pub returns : goal.returns
returns c =
    let app : App = record { top = changes_shape; subs = [] } in
    let none : ReadsAs c.after_help.result (new_app (codes "changes")) = (search rules, search rules) in
    let one = with_arg _ _ c.required.result _ _ c.in_ok-arg.ensures none c.required.ensures.rule c.required.ensures.local in
    let two = with_arg _ _ c.required-2.result _ _ c.in_ok-arg-2.ensures one c.required-2.ensures.rule c.required-2.ensures.local in
    let three = with_arg _ _ c.form_word.result _ _ c.in_ok-arg-3.ensures two c.form_word.ensures.rule c.form_word.ensures.local in
    let four = with_arg _ _ c.records_word.result _ _ c.in_ok-arg-4.ensures three c.records_word.ensures.rule c.records_word.ensures.local in
    let five : IfOk c.arg-5.result (λ r. ReadsAs r app) = IfOk-weaker c.arg-5.result _ _
    (λ r adds. with_arg _ r c.blocks_word.result _ _ adds four c.blocks_word.ensures.rule c.blocks_word.ensures.local) c.arg-5.ensures in
    record { shape = shaped c.arg-5.result app five; local = local c.arg-5.result app five }

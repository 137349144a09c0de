use Rattle.std.proofs.Common.{[], codes}
use Rattle.std.specs.Prelude.{IfOk}
use Rattle.std.proofs.lemmas.Result.{IfOk-weaker}
use Rattle.clap.specs.Words.{new_app}
use Rattle.record_forms.proofs.Arguments.{ReadsAs, with_arg}
use Rattle.event_commands.specs.Words.{alone, name_of, told_shape}
use Rattle.event_commands.proofs.words.told_words.Goals as goal

pub returns : goal.returns
returns c =
    let none : ReadsAs c.bare_event.result (new_app (name_of c.args.subject)) = (c.bare_event.ensures.app, c.bare_event.ensures.local) in
    let one = with_arg _ _ c.required.result _ _ c.in_ok-arg.ensures none c.required.ensures.rule c.required.ensures.local in
    let two = with_arg _ _ c.required-2.result _ _ c.in_ok-arg-2.ensures one c.required-2.ensures.rule c.required-2.ensures.local in
    let three = with_arg _ _ c.seq_option.result _ _ c.in_ok-arg-3.ensures two c.seq_option.ensures.rule c.seq_option.ensures.local in
    let four = with_arg _ _ c.needed.result _ _ c.in_ok-arg-4.ensures three c.needed.ensures.rule c.needed.ensures.local in
    let five = with_arg _ _ c.needed-2.result _ _ c.in_ok-arg-5.ensures four c.needed-2.ensures.rule c.needed-2.ensures.local in
    IfOk-weaker c.arg-6.result _ _ (λ r adds. with_arg _ r c.json_option.result _ _ adds five c.json_option.ensures.rule c.json_option.ensures.local)
    c.arg-6.ensures

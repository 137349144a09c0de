use Rattle.std.specs.Prelude.{IfOk}
use Rattle.std.proofs.lemmas.Result.{IfOk-weaker}
use Rattle.clap.specs.Words.{App}
use Rattle.record_forms.proofs.Arguments.{ReadsAs, local, shaped, with_arg}
use Rattle.event_commands.specs.Words.{alone, commit_event_shape}
use Rattle.event_commands.proofs.words.commit_event_words.Goals as goal

pub returns : goal.returns
returns c =
    let app = alone commit_event_shape in
    let one : IfOk c.arg.result (λ r. ReadsAs r app) = IfOk-weaker c.arg.result _ _
    (λ r adds. with_arg _ r c.optional.result _ _ adds c.in_ok-told_words.ensures c.optional.ensures.rule c.optional.ensures.local)
    c.arg.ensures in
    record { shape = shaped c.arg.result app one; local = local c.arg.result app one }

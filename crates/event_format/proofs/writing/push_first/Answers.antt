use Rattle.std.proofs.lemmas.Result.{on_ok_weaker}
use Rattle.event_format.proofs.Spelling.{five}
use Rattle.event_format.proofs.writing.push_first.Goals as goal

pub returns : goal.returns
returns g c =
    on_ok_weaker c.push_middle.result (λ e. five _ _ _ _ _ _ _ _ _ _ _ c.in_ok-push_ops_field.ensures c.in_ok-push_text_field.ensures
    c.in_ok-push_seq_field.ensures c.in_ok-push_text_field-2.ensures e) c.push_middle.ensures

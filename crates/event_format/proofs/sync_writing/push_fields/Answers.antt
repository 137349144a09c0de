use Rattle.std.proofs.lemmas.Result.{on_ok_weaker}
use Rattle.event_format.proofs.Spelling.{last_five}
use Rattle.event_format.proofs.sync_writing.push_fields.Goals as goal

pub returns : goal.returns
returns g c =
    on_ok_weaker c.push_bytes_field.result (λ e. last_five _ _ _ _ _ _ _ _ _ _ _ c.in_ok-push_text_field.ensures
    c.in_ok-push_text_field-2.ensures c.in_ok-push_seq_field.ensures c.in_ok-push_text_field-3.ensures e) c.push_bytes_field.ensures

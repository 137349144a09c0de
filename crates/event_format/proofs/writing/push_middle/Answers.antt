use Rattle.std.proofs.lemmas.Result.{on_ok_weaker}
use Rattle.event_format.proofs.Spelling.{five}
use Rattle.event_format.proofs.writing.push_middle.Goals as goal

pub returns : goal.returns
returns g c =
    on_ok_weaker c.push_last.result (λ e. five _ _ _ _ _ _ _ _ _ _ _ c.in_ok-push_text_field.ensures c.in_ok-push_no_blobs.ensures
    c.in_ok-push_text_or_null_field.ensures c.in_ok-push_bytes_field.ensures e) c.push_last.ensures

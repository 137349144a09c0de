use Rattle.std.proofs.lemmas.Result.{on_ok_weaker}
use Rattle.event_format.proofs.Spelling.{four}
use Rattle.event_format.proofs.writing.push_last.Goals as goal

pub returns : goal.returns
returns g c =
    on_ok_weaker c.push_link_field-2.result (λ e. four _ _ _ _ _ _ _ _ _ c.in_ok-push_link_field.ensures
    c.in_ok-push_false_field.ensures c.in_ok-push_false_field-2.ensures e) c.push_link_field-2.ensures

use Rattle.std.proofs.Common.{◌∙◌}
use Rattle.std.proofs.lemmas.Result.{on_ok_weaker}
use Rattle.event_format.proofs.Spelling.{ops-parts}
use Rattle.event_format.proofs.writing.push_ops_field.Goals as goal

pub returns : goal.returns
returns g c =
    on_ok_weaker c.push_ops.result (λ e. ops-parts _ _ _ _ _ c.args.ops.now.items _ (c.len.ensures ∙ c.args.ops.now.ok.0)
    c.in_ok-push_text.ensures c.in_ok-push_head.ensures.ok e) c.push_ops.ensures

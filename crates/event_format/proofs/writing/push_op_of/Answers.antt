use Rattle.std.proofs.lemmas.Result.{on_ok_weaker}
use Rattle.event_format.proofs.Spelling.{op-parts}
use Rattle.event_format.proofs.writing.push_op_of.Goals as goal

pub returns : goal.returns
returns g c =
    on_ok_weaker c.push_text_or_null_field.result (λ e. op-parts _ _ _ _ _ _ c.args.key.now c.args.before.now c.args.after.now _ _
    c.size_of_op.ensures c.action_of.ensures c.in_ok-push_head.ensures.ok c.in_ok-push_link_or_null_field.ensures
    c.in_ok-push_text_field.ensures c.in_ok-push_prev.ensures e) c.push_text_or_null_field.ensures

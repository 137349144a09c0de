use Rattle.std.proofs.Common.{ap, ◌∙◌}
use Rattle.std.specs.Prelude.{slice_index}
use Rattle.batches.specs.Values.{stamp_of, writes_of}
use Rattle.repository_commands.specs.Views.{given_of}
use Rattle.repository_commands.proofs.Repositories.{all_taken, refusal_fails, refusal_names}
use Rattle.repository_commands.proofs.filling.apply_writes.Goals as goal

pub returns-in-Ok-clause-passes : goal.returns-in-Ok-clause-passes
returns-in-Ok-clause-passes g c =
    all_taken c.args.core.now (stamp_of c.args.stamp.now) (given_of c.args.puts.now) (writes_of c.deref.result.now)
    (ap writes_of c.deref.ensures.value) c.in-Ok.ensures.passes

pub returns-in-Err-clause-passes : goal.returns-in-Err-clause-passes
returns-in-Err-clause-passes g c =
    let number = c.number_at.ensures ∙ ap (λ ns. slice_index ns c.in-Err.place) c.deref-in-Err.ensures.value in
    refusal_fails g.D.Digest.digest_of c.args.core.now (stamp_of c.args.stamp.now) (given_of c.args.puts.now) _ _ c.in-Err.place (writes_of c.deref.result.now) c.number_at.result
    c.in-Err.fault c.refused.result (ap writes_of c.deref.ensures.value) c.in-Err.ensures.fault number c.refused.ensures

pub returns-in-Err-clause-refused : goal.returns-in-Err-clause-refused
returns-in-Err-clause-refused g c =
    let number = c.number_at.ensures ∙ ap (λ ns. slice_index ns c.in-Err.place) c.deref-in-Err.ensures.value in
    refusal_names g.D.Digest.digest_of c.args.core.now (stamp_of c.args.stamp.now) (given_of c.args.puts.now) _ _ c.in-Err.place c.number_at.result number (writes_of c.deref.result.now)
    c.in-Err.fault c.refused.result (ap writes_of c.deref.ensures.value) c.in-Err.ensures.fault c.refused.ensures

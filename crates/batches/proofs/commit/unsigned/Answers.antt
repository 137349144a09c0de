use Rattle.std.proofs.Common.{ap, ◌∙◌}
use Rattle.spec.specs.Commits.{commit_bytes}
use Rattle.batches.specs.Values.{stamp_of}
use Rattle.batches.proofs.Committing.{unsigned}
use Rattle.batches.proofs.commit.unsigned.Goals as goal

pub returns : goal.returns
returns g c =
    let stamp = stamp_of c.args.stamp.now in
    c.in_ok-bytes.ensures
    ∙ unsigned stamp _ _ _ _ c.deref.ensures.value c.deref-2.ensures.value c.from.result.own
    ∙ ap (commit_bytes stamp) c.from.ensures

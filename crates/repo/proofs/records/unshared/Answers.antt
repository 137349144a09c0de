use Rattle.std.proofs.Common.{◌∙◌}
use Rattle.std.proofs.lemmas.Result.{IfOk-weaker}
use Rattle.repo.proofs.SharedRecords.{all-have, without-some}
use Rattle.repo.proofs.records.unshared.Goals as goal

pub of_writes-requires : goal.of_writes-requires
of_writes-requires g c = all-have _ _ c.in_ok-writes.ensures

pub returns : goal.returns
returns g c =
    IfOk-weaker c.of_writes.result _ _ (λ blocks is. without-some _ _ (is ∙ c.in_ok-writes.ensures)) c.of_writes.ensures

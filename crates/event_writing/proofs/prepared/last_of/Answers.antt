use Rattle.std.proofs.Common.{◌≡◌, ◌+◌, ◌<◌, length, arith}
use Rattle.batches.specs.Values.{shared_writes}
use Rattle.repo.proofs.Exchanging.{has-passed}
use Rattle.repo.proofs.Preparing.{as-many}
use Rattle.event_writing.proofs.prepared.last_of.Goals as goal

pub returns : goal.returns
returns g c =
    let p = c.args.prepared.now in
    let some = (has-passed p.before p.stamp p.writes c.writes.ensures.passed.passes).some in
    let n = as-many c.writes.result.now p.writes c.writes.ensures.value in
    omega (arith, some, n)

use Rattle.std.proofs.Common.{◌≡◌, [], sym, subst}
use Rattle.std.specs.Prelude.{All}
use Rattle.notices.specs.Views.{PassView}
use Rattle.notices.proofs.Told.{fresh_all}
use Rattle.bench.proofs.queues.round.Goals as goal

pub run-requires-clause-passes : goal.run-requires-clause-passes
run-requires-clause-passes g c κs within =
    let q = c.in_ok-queue.queue.queue_id in
    subst (All (λ (p : PassView). (p.queue_id ≡ q) × (p.sent ≡ []))) (sym c.in_ok-queue.ensures.passes) (fresh_all q c.args.senders)

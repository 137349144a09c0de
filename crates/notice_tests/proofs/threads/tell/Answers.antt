use Rattle.std.proofs.Common.{◌≡◌, [], sym, subst}
use Rattle.std.specs.Prelude.{All}
use Rattle.notices.specs.Views.{PassView}
use Rattle.notices.proofs.Told.{fresh_all}
use Rattle.notice_tests.proofs.threads.tell.Goals as goal

pub run-ended-requires-clause-passes : goal.run-ended-requires-clause-passes
run-ended-requires-clause-passes g c κs within =
    let q = c.in_ok-queue.queue.queue_id in
    subst (All (λ (p : PassView). (p.queue_id ≡ q) × (p.sent ≡ []))) (sym c.in_ok-queue.ensures.passes) (fresh_all q c.args.writers)

use Rattle.std.proofs.Common.{refl}
use Rattle.script_tests.proofs.Opened.{all_seated, as_many}
use Rattle.script_tests.proofs.closes.open.Goals as goal

pub returns-clause-seats : goal.returns-clause-seats
returns-clause-seats g c =
    let x = c.in-Ok.opened in
    all_seated x.host x.seats.items x.host.queue.queue_id c.args.limits.writers c.args.limits.repos refl c.in-Ok.ensures.repos c.in-Ok.ensures.seats

pub returns-clause-all : goal.returns-clause-all
returns-clause-all g c =
    let x = c.in-Ok.opened in
    as_many x.seats.items x.feed x.host.queue.queue_id c.args.limits.writers c.args.limits.repos c.in-Ok.ensures.seats c.in-Ok.ensures.feed

use Rattle.std.proofs.Common.{refl}
use Rattle.bench.proofs.Opened.{all_seated, as_many}
use Rattle.bench.proofs.writers.open.Goals as goal

pub returns-in-Ok-clause-seats : goal.returns-in-Ok-clause-seats
returns-in-Ok-clause-seats g c =
    let x = c.in-Ok.opened in
    all_seated x.host x.seats.items x.host.queue.queue_id c.args.load.writers c.args.load.repos refl c.in-Ok.ensures.repos c.in-Ok.ensures.seats

pub returns-in-Ok-clause-all : goal.returns-in-Ok-clause-all
returns-in-Ok-clause-all g c =
    let x = c.in-Ok.opened in
    as_many x.seats.items x.feed x.host.queue.queue_id c.args.load.writers c.args.load.repos c.in-Ok.ensures.seats c.in-Ok.ensures.feed

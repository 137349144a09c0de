use Rattle.closing.proofs.Closings.{closed_after, received_at, unchanged_at, told_at}
use Rattle.closing.proofs.closed.Closed.next_left.Goals as goal

pub invariant_of-self : goal.invariant_of-self
invariant_of-self g c =
    closed_after g.D.Digest.digest_of g.row.B c.self.inside.repositories.tables c.self.inside.queue.queue_id c.self.inside.repositories.cores.items c.self.inside.feed c.take.new.feed c.self.inside.settled.items c.self.invariant c.take.result
    c.take.ensures.received c.take.ensures.unchanged

pub returns-clause-received : goal.returns-clause-received
returns-clause-received g c =
    received_at c.take.result (record { cores = c.self.inside.repositories.cores.items; tables = c.self.inside.repositories.tables; feed = c.self.inside.feed; ended = c.self.inside.settled.items }) c.args.self.now c.take.new.feed c.self.view_is
    c.take.ensures.received

pub returns-clause-unchanged : goal.returns-clause-unchanged
returns-clause-unchanged g c =
    unchanged_at c.take.result (record { cores = c.self.inside.repositories.cores.items; tables = c.self.inside.repositories.tables; feed = c.self.inside.feed; ended = c.self.inside.settled.items }) c.args.self.now c.take.new.feed c.self.view_is
    c.take.ensures.unchanged

pub returns-clause-told : goal.returns-clause-told
returns-clause-told g c =
    told_at c.take.result c.take.new.feed c.self.inside.feed c.self.inside.settled.items c.self.invariant.joined c.self.invariant.all c.take.ensures.unchanged c.take.ensures.all

use Rattle.std.proofs.Common.{ap, ◌∙◌}
use Rattle.closing.specs.Settling.{ClosedView}
use Rattle.closing.specs.Tally.{tally, count}
use Rattle.closing.proofs.Tallies.{count_is_tally}
use Rattle.closing.proofs.closed.Closed.count.Goals as goal

pub returns-clause-entry : goal.returns-clause-entry
returns-clause-entry g c = c.count_in_shard.ensures ∙ ap (λ (v : ClosedView). count v.tables c.args.cid.now) c.self.view_is

pub returns-clause-tally : goal.returns-clause-tally
returns-clause-tally g c =
    c.count_in_shard.ensures
    ∙ count_is_tally g.D.Digest.digest_of g.row.B c.self.inside.repositories.cores.items c.self.inside.repositories.tables c.self.invariant.settled.even c.args.cid.now
    ∙ ap (λ (v : ClosedView). tally g.D.Digest.digest_of g.row.B v.cores c.args.cid.now) c.self.view_is

use Rattle.std.proofs.lemmas.Grind.{common_steps}
use Rattle.std.proofs.Common.{ap, ◌∙◌, arith}
use Rattle.closing.specs.Settling.{ClosedView}
use Rattle.closing.specs.Tally.{tally}
use Rattle.closing.specs.Counts.{positive}
use Rattle.closing.proofs.Tallies.{count_is_tally}
use Rattle.closing.proofs.Closings.{counts_at}
use Rattle.closing.proofs.closed.Closed.counts.Goals as goal

pub returns-clause-counts : goal.returns-clause-counts
returns-clause-counts g c =
    counts_at c.listed.result c.in_ok-all.all.entries (λ cid. positive (tally g.D.Digest.digest_of g.row.B c.args.self.now.cores cid)) c.listed.ensures.items
    (λ cid.
    c.in_ok-all.ensures cid
    ∙ ap positive (count_is_tally g.D.Digest.digest_of g.row.B c.self.inside.repositories.cores.items c.self.inside.repositories.tables c.self.invariant.settled.even cid
    ∙ ap (λ (v : ClosedView). tally g.D.Digest.digest_of g.row.B v.cores cid) c.self.view_is))

pub returns-in_err-clone-clause-ascending : goal.returns-in_err-clone-clause-ascending
returns-in_err-clone-clause-ascending g c = grind (arith, common_steps) steps 30000000

pub returns-in_err-clone-clause-counts : goal.returns-in_err-clone-clause-counts
returns-in_err-clone-clause-counts g c = grind (arith, common_steps) steps 30000000

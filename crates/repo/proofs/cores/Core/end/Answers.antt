use Rattle.std.proofs.Common.{refl}
use Rattle.repo.specs.Views.{state_view}
use Rattle.repo.proofs.Entering.{last_entered}
use Rattle.repo.proofs.cores.Core.end.Goals as goal

pub returns-clause-entered : goal.returns-clause-entered
returns-clause-entered g c =
    let old = c.self.inside in
    last_entered g.D.Digest.digest_of g.row.B g.S.BlockStore c.args.self (state_view old.kept.me old.limit old.accepted.items old.stamps.items) old.root old.commit old.kept
    c.args.store.now c.end.new.store c.self.view_is refl c.self.invariant c.end.ensures.entered

use Rattle.kept.specs.Uses.{used_blocks}
use Rattle.repo.specs.Views.{state_view}
use Rattle.repo.proofs.Listing.{core-blocks}
use Rattle.repo.proofs.cores.Core.blocks.Goals as goal

pub returns-clause-blocks : goal.returns-clause-blocks
returns-clause-blocks g c =
    let old = c.self.inside in
    core-blocks g.D.Digest.digest_of g.row.B (state_view old.kept.me old.limit old.accepted.items old.stamps.items) c.args.self.now old.root old.commit old.kept (used_blocks c.blocks-2.result.entries)
    c.self.invariant c.self.view_is c.blocks-2.ensures

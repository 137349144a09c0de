use Rattle.std.proofs.Common.{subst}
use Rattle.spec.specs.Blocks.{pairs}
use Rattle.spec.specs.States.{State, records}
use Rattle.repo.specs.Cores.{IsCore}
use Rattle.repo.proofs.Keeping.{core-tree}
use Rattle.repo.proofs.cores.Core.list.Goals as goal

pub returns-clause-pairs : goal.returns-clause-pairs
returns-clause-pairs g c =
    let dig = g.D.Digest.digest_of in
    let is : IsCore dig g.row.B c.args.self.now c.self.inside.root c.self.inside.commit c.self.inside.kept =
    subst (λ (s : State). IsCore dig g.row.B s c.self.inside.root c.self.inside.commit c.self.inside.kept) c.self.view_is c.self.invariant in
    c.pairs_from.ensures (pairs dig (records c.args.self.now)) (core-tree dig g.row.B c.args.self.now c.self.inside.root c.self.inside.commit c.self.inside.kept is g.met.D.Digest.digest_len)

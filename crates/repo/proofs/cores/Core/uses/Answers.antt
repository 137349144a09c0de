use Rattle.std.proofs.Common.{subst, ◌∙◌}
use Rattle.spec.specs.States.{State}
use Rattle.repo.specs.Cores.{IsCore}
use Rattle.repo.proofs.cores.Core.uses.Goals as goal

pub returns-clause-value : goal.returns-clause-value
returns-clause-value g c =
    let dig = g.D.Digest.digest_of in
    let is : IsCore dig g.row.B c.args.self.now c.self.inside.root c.self.inside.commit c.self.inside.kept =
    subst (λ (s : State). IsCore dig g.row.B s c.self.inside.root c.self.inside.commit c.self.inside.kept) c.self.view_is c.self.invariant in
    c.uses.ensures ∙ is.kept.counted c.args.cid.now

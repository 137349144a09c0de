use Rattle.std.proofs.Common.{subst, ◌∙◌}
use Rattle.std.specs.Arc.{arc_value}
use Rattle.std.specs.Prelude.{option_map}
use Rattle.kept.specs.Uses.{lent}
use Rattle.spec.specs.Cid.{cid as cid_of}
use Rattle.spec.specs.States.{State}
use Rattle.repo.specs.Cores.{IsCore}
use Rattle.repo.specs.Views.{state_view}
use Rattle.repo.proofs.Lending.{core-lends, core-lends_tree}
use Rattle.repo.proofs.cores.Core.lender.Goals as goal

pub returns-clause-blocks : goal.returns-clause-blocks
returns-clause-blocks g c =
    let old = c.self.inside in
    core-lends g.D.Digest.digest_of g.row.B (state_view old.kept.me old.limit old.accepted.items old.stamps.items) c.args.self.now old.root old.commit old.kept
    (λ q. option_map arc_value (lent c.lender.result.blocks.now q)) c.self.invariant c.self.view_is c.lender.ensures.blocks

pub returns-clause-tree : goal.returns-clause-tree
returns-clause-tree g c =
    let old = c.self.inside in
    core-lends_tree g.D.Digest.digest_of g.row.B (state_view old.kept.me old.limit old.accepted.items old.stamps.items) c.args.self.now old.root old.commit old.kept
    (λ q. option_map arc_value (lent c.lender.result.blocks.now q)) c.self.invariant c.self.view_is c.lender.ensures.blocks g.met.D.Digest.digest_len

pub returns-clause-uses : goal.returns-clause-uses
returns-clause-uses g c q u h =
    let digest = g.D.Digest.digest_of in
    let is : IsCore digest g.row.B c.args.self.now c.self.inside.root c.self.inside.commit c.self.inside.kept =
    subst (λ (s : State). IsCore digest g.row.B s c.self.inside.root c.self.inside.commit c.self.inside.kept) c.self.view_is c.self.invariant in
    c.lender.ensures.uses q u h ∙ is.kept.counted (cid_of digest (arc_value u.hold.0))

use Rattle.std.proofs.Common.{ℕ, List, Some, ap, subst, ◌∙◌}
use Rattle.spec.specs.Blocks.{pairs}
use Rattle.spec.specs.States.{State, records}
use Rattle.repo.specs.Cores.{IsCore}
use Rattle.repo.proofs.Keeping.{core-tree, core-get, get-none}
use Rattle.repo.proofs.cores.Core.get.Goals as goal

pub returns-in-Some-block-clause-value : goal.returns-in-Some-block-clause-value
returns-in-Some-block-clause-value g c =
    let dig = g.D.Digest.digest_of in
    let is : IsCore dig g.row.B c.args.self.now c.self.inside.root c.self.inside.commit c.self.inside.kept =
    subst (λ (s : State). IsCore dig g.row.B s c.self.inside.root c.self.inside.commit c.self.inside.kept) c.self.view_is c.self.invariant in
    let tree = core-tree dig g.row.B c.args.self.now c.self.inside.root c.self.inside.commit c.self.inside.kept is g.met.D.Digest.digest_len in
    ap (λ (x : List ℕ). Some x) c.deref.ensures ∙ c.in-Some-block.ensures.value
    ∙ core-get dig g.row.B c.args.self.now c.self.inside.root c.self.inside.commit c.self.inside.kept is c.args.key.now c.in-Some.cid (c.in-Some.ensures (pairs dig (records c.args.self.now)) tree)

pub returns-in-None-block-clause-value : goal.returns-in-None-block-clause-value
returns-in-None-block-clause-value g c =
    let dig = g.D.Digest.digest_of in
    let is : IsCore dig g.row.B c.args.self.now c.self.inside.root c.self.inside.commit c.self.inside.kept =
    subst (λ (s : State). IsCore dig g.row.B s c.self.inside.root c.self.inside.commit c.self.inside.kept) c.self.view_is c.self.invariant in
    let tree = core-tree dig g.row.B c.args.self.now c.self.inside.root c.self.inside.commit c.self.inside.kept is g.met.D.Digest.digest_len in
    c.in-None-block.ensures.value
    ∙ core-get dig g.row.B c.args.self.now c.self.inside.root c.self.inside.commit c.self.inside.kept is c.args.key.now c.in-Some.cid (c.in-Some.ensures (pairs dig (records c.args.self.now)) tree)

pub returns-in-None-clause-value : goal.returns-in-None-clause-value
returns-in-None-clause-value g c =
    let dig = g.D.Digest.digest_of in
    let is : IsCore dig g.row.B c.args.self.now c.self.inside.root c.self.inside.commit c.self.inside.kept =
    subst (λ (s : State). IsCore dig g.row.B s c.self.inside.root c.self.inside.commit c.self.inside.kept) c.self.view_is c.self.invariant in
    let tree = core-tree dig g.row.B c.args.self.now c.self.inside.root c.self.inside.commit c.self.inside.kept is g.met.D.Digest.digest_len in
    get-none dig c.args.self.now c.args.key.now (c.in-None.ensures (pairs dig (records c.args.self.now)) tree)

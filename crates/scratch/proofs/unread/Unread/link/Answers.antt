use Rattle.std.proofs.Common.{ap, ◌∙◌}
use Rattle.spec.specs.Cid.{cid}
use Rattle.scratch.specs.Cut.{Cut, link_to}
use Rattle.scratch.proofs.FirstNode.{link-first}
use Rattle.scratch.proofs.unread.Unread.link.Goals as goal

pub returns : goal.returns
returns g c =
    let digest = g.D.Digest.digest_of in
    link-first digest c.self.inside.first c.self.inside.nodes.now c.in_ok-first.field-0.now c.cid.result c.if-self-eq0.false
    c.in_ok-first.ensures.value (c.cid.ensures ∙ ap (cid digest) c.deref.ensures)
    ∙ ap (λ (v : Cut). link_to digest v.first) c.self.view_is

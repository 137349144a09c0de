use Rattle.std.proofs.Common.{◌≡◌, ◌∙◌, ◌++◌, ap, map, subst}
use Rattle.std.specs.Prelude.{IfOk}
use Rattle.spec.specs.Cid.{prefix}
use Rattle.export.proofs.Among.{by_digests}
use Rattle.export.proofs.verifying_among.cids_of.Goals as goal

pub returns : goal.returns
returns g c =
    subst (λ cs. IfOk c.named.result (λ cids. cids.items ≡ cs))
    (ap (map (λ digest. prefix ++ digest)) (c.deref.ensures.value ∙ c.in_ok-digests.ensures)
    ∙ by_digests g.D.Digest.digest_of g.K.AsSlice.items c.args.blocks.now)
    c.named.ensures

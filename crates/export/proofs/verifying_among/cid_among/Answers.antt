use Rattle.std.proofs.Common.{◌∙◌}
use Rattle.export.proofs.Among.{cid_at, within_cids}
use Rattle.export.proofs.verifying_among.cid_among.Goals as goal

pub bounds-cids-place : goal.bounds-cids-place
bounds-cids-place g c = within_cids g.D.Digest.digest_of g.K.AsSlice.items c.args.blocks.now c.args.cids.now c.requires.named c.args.place c.requires.within

pub returns : goal.returns
returns g c =
    c.index-cids-place.is
    ∙ cid_at g.D.Digest.digest_of g.K.AsSlice.items c.args.blocks.now c.args.cids.now c.requires.named c.args.place c.requires.within
    c.index-cids-place.result

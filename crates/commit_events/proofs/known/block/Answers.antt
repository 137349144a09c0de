use Rattle.std.proofs.Common.{sym, ap, ◌∙◌}
use Rattle.spec.specs.Cid.{cid}
use Rattle.commit_events.proofs.Named.{cid-known}
use Rattle.commit_events.proofs.known.block.Goals as goal

pub of_known-requires : goal.of_known-requires
of_known-requires g c =
    c.to_cid.ensures ∙ cid-known g.D.Digest.digest_of c.args.section.now c.requires
    ∙ ap (cid g.D.Digest.digest_of) (sym c.in_ok-bytes.ensures.items)

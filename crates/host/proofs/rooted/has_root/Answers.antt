use Rattle.host.proofs.RootLaws.{root-decides}
use Rattle.host.proofs.rooted.has_root.Goals as goal

pub returns-in-Some : goal.returns-in-Some
returns-in-Some g c =
    root-decides g.D.Digest.digest_of g.row.B c.args.core.now c.args.wanted c.in-Some.root c.root.result c.eq.result c.in-Some.is
    c.root.ensures.value c.eq.ensures

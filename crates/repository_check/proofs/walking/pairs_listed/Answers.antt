use Rattle.std.proofs.Common.{◌-◌, ◌^◌, [], arith}
use Rattle.repository_check.proofs.FewNodes.{few-walked, has-tree, listed-are}
use Rattle.repository_check.proofs.walking.pairs_listed.Goals as goal

pub returns : goal.returns
returns g c =
    let ss = c.args.places.now in
    let root = c.args.root.now in
    listed-are g.D.Digest.digest_of g.row.B (2 ^ 64 - 1) ss root c.walk_in_reads.result (omega arith)
    (λ es is. c.walk_in_reads.ensures.pairs es (has-tree g.D.Digest.digest_of g.row.B g.met.D.Digest.digest_len ss root es is)
    (few-walked g.D.Digest.digest_of g.row.B g.met.D.Digest.digest_len ss root es is [] (2 ^ 64 - 1) c.args.sections c.requires.sections))

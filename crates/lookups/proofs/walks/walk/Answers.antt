use Rattle.std.proofs.Common.{◌+◌, ap, ◌∙◌}
use Rattle.std.proofs.lemmas.Result.{IfOk-weaker}
use Rattle.lookups.proofs.Walking.{tree-pairs, tree-asked, plain-product, most-product}
use Rattle.lookups.proofs.walks.walk.Goals as goal

pub returns-clause-pairs : goal.returns-clause-pairs
returns-clause-pairs g c es h =
    let e = tree-pairs _ _ g.met.D.Digest.digest_len _ _ c.args.from.now es h c.layers-most.result c.layers-most.ensures c.args.limit in
    let p = plain-product _ _ g.met.D.Digest.digest_len _ _ c.args.from.now es h c.layers-most.result c.layers-most.ensures c.args.limit
    c.most_reads.result c.most_reads.ensures in
    IfOk-weaker c.walk_within.result _ _ (λ pairs k. k ∙ e) (c.walk_within.ensures.pairs p)

pub returns-clause-reads : goal.returns-clause-reads
returns-clause-reads g c es h =
    let e = tree-asked _ _ g.met.D.Digest.digest_len _ _ c.args.from.now es h c.layers-most.result c.layers-most.ensures c.args.limit in
    let p = plain-product _ _ g.met.D.Digest.digest_len _ _ c.args.from.now es h c.layers-most.result c.layers-most.ensures c.args.limit
    c.most_reads.result c.most_reads.ensures in
    IfOk-weaker c.walk_within.result _ _ (λ pairs k. k ∙ ap (λ n. g.S.Source.reads c.args.src.now + n) e) (c.walk_within.ensures.reads p)

pub returns-clause-most : goal.returns-clause-most
returns-clause-most g c =
    most-product _ (g.S.Source.reads c.args.src.now) c.most_reads.result c.args.limit c.layers-most.result _ c.walk_within.ensures.most
    c.most_reads.ensures c.layers-most.ensures

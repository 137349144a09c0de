use Rattle.std.proofs.Common.{◌+◌, ap, ◌∙◌}
use Rattle.lookups.proofs.Stepping.{tree-value, tree-reads, tree-layers, asked-most, most-below, reads-below}
use Rattle.lookups.proofs.lookups.get.Goals as goal

pub returns-clause-value : goal.returns-clause-value
returns-clause-value g c es h =
    c.value_below.ensures.value ∙ tree-value _ _ g.met.D.Digest.digest_len _ _ c.args.key.now es h _ c.layers.ensures

pub returns-clause-reads : goal.returns-clause-reads
returns-clause-reads g c es h =
    c.value_below.ensures.reads
    ∙ ap (λ n. g.S.Source.reads c.args.src.now + n) (tree-reads _ _ g.met.D.Digest.digest_len _ _ c.args.key.now es h _ c.layers.ensures)

pub returns-clause-layers : goal.returns-clause-layers
returns-clause-layers g c es h =
    most-below _ _ _ _ c.value_below.ensures.reads (tree-layers _ _ g.met.D.Digest.digest_len _ _ c.args.key.now es h _ c.layers.ensures)

pub returns-clause-most : goal.returns-clause-most
returns-clause-most g c =
    reads-below _ _ _ _ _ c.value_below.ensures.reads (asked-most _ c.args.key.now c.layers.result _) c.layers.ensures

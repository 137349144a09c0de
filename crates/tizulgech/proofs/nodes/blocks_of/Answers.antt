use Rattle.std.proofs.Common.{map, rules}
use Rattle.std.specs.Arc.{arc_value}
use Rattle.tizulgech.proofs.Knowing.{joined_are}
use Rattle.tizulgech.proofs.nodes.blocks_of.Goals as goal

pub returns : goal.returns
returns c = joined_are (λ pair. (pair.0.items, pair.1)) (map (λ part. part.now) c.args.parts.now) (map (λ part. part.now) c.first_of.result.0.now)
    (map (λ part. part.now) c.first_of.result.1.now) (map arc_value c.in_ok-joined.field-0.items) c.in-Some.known.items c.args.cids.now
    c.first_of.ensures.first c.first_of.ensures.whole (search rules) c.in_ok-joined.ensures

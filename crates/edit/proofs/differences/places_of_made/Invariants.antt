use Rattle.std.proofs.Common.{map, take}
use Rattle.std.specs.Arc.{arc_value}
use Rattle.spec.specs.Cid.{cid}
use Rattle.edit.specs.Firsts.{HasPlaces}
use Rattle.edit.proofs.differences.places_of_made.Given as goal

abbrev pub invariant-loop-count : goal.invariant-loop-count
invariant-loop-count g l =
    HasPlaces (map (cid g.D.Digest.digest_of) (map arc_value (take l.count l.blocks))) l.places

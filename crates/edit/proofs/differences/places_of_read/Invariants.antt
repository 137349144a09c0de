use Rattle.std.proofs.Common.{◌≡◌, map, take}
use Rattle.std.specs.Arc.{arc_value}
use Rattle.spec.specs.Cid.{cid}
use Rattle.spec.specs.NodeFormat.{shape_bytes}
use Rattle.edit.specs.Firsts.{HasPlaces}
use Rattle.edit.specs.States.{shapes_in}
use Rattle.edit.proofs.differences.places_of_read.Given as goal

abbrev pub invariant-loop-count : goal.invariant-loop-count
invariant-loop-count g l = record {
  places : HasPlaces (map (cid g.D.Digest.digest_of) (map arc_value (take l.count l.blocks))) l.places;
  spelled : map arc_value (take l.count l.blocks) ≡ map shape_bytes (shapes_in (take l.count l.blocks));
}

use Rattle.std.proofs.Common.{◌≡◌, map, take}
use Rattle.std.specs.Arc.{arc_value}
use Rattle.edit_laws.specs.Changes.{drop_of}
use Rattle.spec.specs.Cid.{cid}
use Rattle.edit.specs.Firsts.{HasPlaces}
use Rattle.edit.proofs.differences.dropped.Given as goal

abbrev pub invariant-loop-lent : goal.invariant-loop-lent
invariant-loop-lent g l = record {
  placed : HasPlaces (map (cid g.D.Digest.digest_of) (map arc_value l.made)) l.new;
  dropped : l.dropped.items ≡ drop_of g.D.Digest.digest_of (map arc_value l.made) (map arc_value (take l.lent-index l.gone));
}

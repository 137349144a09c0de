use Rattle.std.proofs.Common.{◌≡◌, ◌++◌, length, map}
use Rattle.std.specs.Arc.{arc_value}
use Rattle.std.specs.Vec.Iter.{into_iter_items, into_iter_len}
use Rattle.spec.specs.Cid.{cid}
use Rattle.edit.proofs.Among.{AreAdded}
use Rattle.edit.specs.Firsts.{HasPlaces}
use Rattle.edit.proofs.differences.added.Given as goal

abbrev pub invariant-loop-block : goal.invariant-loop-block
invariant-loop-block g l = record {
  added : AreAdded g.D.Digest.digest_of (map arc_value l.read) (map arc_value l.yielded) (map arc_value l.add.items);
  placed : HasPlaces (map (cid g.D.Digest.digest_of) (map arc_value l.add.items)) l.new;
  whole : into_iter_items l.initial.block-iterator ≡ l.yielded ++ into_iter_items l.block-iterator;
  left : into_iter_len l.block-iterator ≡ length (into_iter_items l.block-iterator);
}

use Rattle.std.proofs.Common.{◌≡◌, map as each, take}
use Rattle.std.specs.Arc.{arc_value}
use Rattle.lookups.specs.Maps.{first_of}
use Rattle.kept.specs.Alone.{AreAlone}
use Rattle.kept.specs.Uses.{counted}
use Rattle.kept.proofs.kept.test_alone.Given as goal

abbrev pub invariant-loop-block : goal.invariant-loop-block
invariant-loop-block g l = record {
  gives : first_of g.D.Digest.digest_of l.front.blocks ≡ first_of g.D.Digest.digest_of l.initial.front.blocks;
  alone : AreAlone g.D.Digest.digest_of (first_of g.D.Digest.digest_of l.initial.front.blocks) (counted l.kept) (each arc_value (take l.block-index l.come));
}

use Rattle.std.proofs.Common.{◌≡◌, ◌≤◌, length, map as each, take}
use Rattle.std.specs.Arc.{arc_value}
use Rattle.kept.specs.Counts.{Counts, AllUsed, ComeAlone, gained}
use Rattle.kept.specs.Entering.{Follows}
use Rattle.kept.specs.Uses.{at, counted}
use Rattle.kept.proofs.use_map.UseMap.take_back.Given as goal

abbrev pub invariant-loop-left : goal.invariant-loop-left
invariant-loop-left g l = record {
  within : l.left ≤ length l.came;
  taken_back : (before : Counts) → AllUsed before → ComeAlone g.D.Digest.digest_of before (each arc_value l.came)
      → counted l.fn.self ≡ gained g.D.Digest.digest_of before (each arc_value l.came)
      → counted l.self ≡ gained g.D.Digest.digest_of before (each arc_value (take l.left l.came));
  fulls : g.S.BlockStore.fulls l.store ≡ g.S.BlockStore.fulls l.fn.store;
  followed : Follows g.D.Digest.digest_of g.S.BlockStore (at l.fn.self) (at l.self) l.fn.store l.store;
}

abbrev pub decreases-loop-left : goal.decreases-loop-left
decreases-loop-left g l = l.left

use Rattle.std.proofs.Common.{◌≡◌, map as each, take}
use Rattle.std.specs.Arc.{arc_value}
use Rattle.kept.specs.Counts.{ComeAlone, gained}
use Rattle.kept.specs.Entering.{Enters, has_entry}
use Rattle.kept.specs.Uses.{AreUses, at, counted}
use Rattle.kept.proofs.use_map.UseMap.gain.Given as goal

abbrev pub invariant-loop-place : goal.invariant-loop-place
invariant-loop-place g l = record {
  gained : counted l.self ≡ gained g.D.Digest.digest_of (counted l.fn.self) (each arc_value (take l.place l.come));
  alone : ComeAlone g.D.Digest.digest_of (counted l.fn.self) (each arc_value (take l.place l.come));
  uses : AreUses g.D.Digest.digest_of l.me (at l.self);
  fulls : g.S.BlockStore.fulls l.store ≡ g.S.BlockStore.fulls l.fn.store;
  entered : Enters g.D.Digest.digest_of g.S.BlockStore l.me (has_entry l.fn.self) (has_entry l.self) l.fn.store l.store;
}

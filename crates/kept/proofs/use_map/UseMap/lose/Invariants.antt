use Rattle.std.proofs.Common.{◌≡◌, take}
use Rattle.kept.specs.Counts.{lost}
use Rattle.kept.specs.Entering.{Follows}
use Rattle.kept.specs.Uses.{at, counted}
use Rattle.kept.proofs.use_map.UseMap.lose.Given as goal

abbrev pub invariant-loop-cid : goal.invariant-loop-cid
invariant-loop-cid g l = record {
  lost : counted l.self ≡ lost (counted l.fn.self) (take l.cid-index l.go);
  fulls : g.S.BlockStore.fulls l.store ≡ g.S.BlockStore.fulls l.fn.store;
  followed : Follows g.D.Digest.digest_of g.S.BlockStore (at l.fn.self) (at l.self) l.fn.store l.store;
}

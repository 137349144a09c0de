use Rattle.std.proofs.Common.{◌≡◌}
use Rattle.std.specs.HashMap.{hash_map_len}
use Rattle.kept.specs.Uses.{at}
use Rattle.kept.proofs.Entering.{Following}
use Rattle.kept.proofs.Entries.{listed_at}
use Rattle.kept.proofs.use_map.UseMap.end.Given as goal

abbrev pub invariant-loop-held : goal.invariant-loop-held
invariant-loop-held g l = record {
  fulls : g.S.BlockStore.fulls l.store ≡ g.S.BlockStore.fulls l.initial.store;
  following : Following g.D.Digest.digest_of g.S.BlockStore (at l.fn.self) (listed_at l.blocks.entries)
      l.initial.store l.store;
}

abbrev pub decreases-loop-held : goal.decreases-loop-held
decreases-loop-held g l = hash_map_len l.blocks

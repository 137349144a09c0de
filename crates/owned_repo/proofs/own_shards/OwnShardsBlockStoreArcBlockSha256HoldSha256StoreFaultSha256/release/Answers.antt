use Rattle.std.proofs.Common.{ap, length, subst, sym, ◌∙◌, slice_index_or}
use Rattle.std.specs.Arc.{arc_value}
use Rattle.sha2.specs.Sha256.{sha256}
use Rattle.spec.specs.Cid.{cid as cid_of}
use Rattle.store.specs.Shards.{AreShardsOf}
use Rattle.store.specs.Table.{shard_of}
use Rattle.store.proofs.OwnBlocks.{found, shards_released, still_sixteen}
use Rattle.owned_repo.proofs.own_shards.OwnShardsBlockStoreArcBlockSha256HoldSha256StoreFaultSha256.release.Goals as goal

pub invariant_of-self : goal.invariant_of-self
invariant_of-self c =
    let shards = c.as_mut_slice-shards.result.now in
    let same = c.as_mut_slice-shards.ensures.value in
    let sixteen = ap length same ∙ c.args.self.now.sixteen in
    let number = c.shard_number-number.result in
    let small = c.shard_number-number.ensures.small in
    let old = slice_index_or shards number c.index-shards-number.result in record {
      sixteen = still_sixteen shards number c.release.new.self sixteen;
      own = shards_released 1048576 shards number (cid_of sha256 (arc_value c.args.hold.0)) c.args.hold.1
          old c.release.new.self sixteen (subst (AreShardsOf 1048576) (sym same) c.args.self.now.own) small
          (c.shard_number-number.ensures.value ∙ ap shard_of c.cid.ensures)
          (found shards number c.index-shards-number.result sixteen small)
          c.release.ensures;
      full = c.args.self.now.full;
    }

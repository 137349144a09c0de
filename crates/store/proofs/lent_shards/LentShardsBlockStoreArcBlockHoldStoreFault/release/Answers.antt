use Rattle.std.proofs.Common.{ap, ◌∙◌, slice_index_or}
use Rattle.std.specs.Arc.{arc_value}
use Rattle.spec.specs.Cid.{cid as cid_of}
use Rattle.store.specs.Table.{shard_of}
use Rattle.store.proofs.OwnBlocks.{found, left_here, shards_released, still_sixteen}
use Rattle.store.proofs.lent_shards.LentShardsBlockStoreArcBlockHoldStoreFault.release.Goals as goal

pub invariant_of-self : goal.invariant_of-self
invariant_of-self g c =
    let shards = c.args.self.now.shards.now in
    let sixteen = c.args.self.now.sixteen in
    let number = c.shard_number-number.result in
    let small = c.shard_number-number.ensures.small in
    let old = slice_index_or shards number c.index-shards-number.result in
    let here = found shards number c.index-shards-number.result sixteen small in record {
      sixteen = still_sixteen shards number c.release.new.self sixteen;
      own = λ new. shards_released g.row.LIMIT shards number (cid_of g.D.Digest.digest_of (arc_value c.args.hold.0)) c.args.hold.1
          old c.release.new.self sixteen (c.args.self.now.own new) small
          (c.shard_number-number.ensures.value ∙ ap shard_of c.cid.ensures)
          here
          c.release.ensures;
      full = c.args.self.now.full;
    }

pub returns-clause-left : goal.returns-clause-left
returns-clause-left g c =
    let shards = c.args.self.now.shards.now in
    let number = c.shard_number-number.result in
    left_here shards number (cid_of g.D.Digest.digest_of (arc_value c.args.hold.0)) c.args.hold.1
    (slice_index_or shards number c.index-shards-number.result) c.release.new.self
    (c.shard_number-number.ensures.value ∙ ap shard_of c.cid.ensures)
    (found shards number c.index-shards-number.result c.args.self.now.sixteen c.shard_number-number.ensures.small)
    c.release.ensures

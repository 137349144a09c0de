use Rattle.std.proofs.Common.{◌≡◌, ap, length, subst, sym, ◌∙◌, rules, slice_index_or}
use Rattle.std.specs.Prelude.{Err}
use Rattle.std.specs.Arc.{arc_value}
use Rattle.sha2.specs.Sha256.{sha256}
use Rattle.spec.specs.Cid.{cid as cid_of}
use Rattle.store.specs.Shards.{AreShardsOf}
use Rattle.store.specs.Table.{shard_of, IsLawful}
use Rattle.store.specs.declared.fault.StoreFault.TheVariants.{Full}
use Rattle.store.proofs.OwnBlocks.{answered_full, found, full_asked, shards_asked, still_sixteen}
use Rattle.owned_repo.proofs.own_shards.OwnShardsBlockStoreArcBlockSha256HoldSha256StoreFaultSha256.acquire.Goals as goal
use Rattle.owned_repo.proofs.own_shards.OwnShardsBlockStoreArcBlockSha256HoldSha256StoreFaultSha256.acquire.Goals.{in-Err-Full, in_default, in_default-2}

pub invariant_of-self : goal.invariant_of-self
invariant_of-self c =
    let bytes = arc_value c.args.block in
    let shards = c.as_mut_slice-shards.result.now in
    let same = c.as_mut_slice-shards.ensures.value in
    let sixteen = ap length same ∙ c.args.self.now.sixteen in
    let own = subst (AreShardsOf 1048576) (sym same) c.args.self.now.own in
    let number = c.shard_number-number.result in
    let small = c.shard_number-number.ensures.small in
    let old = slice_index_or shards number c.index-shards-number.result in
    let here = found shards number c.index-shards-number.result sixteen small in
    let named = c.cid-cid.ensures ∙ ap (cid_of sha256) c.deref.ensures in
    let full : c.acquire-answer.result ≡ Err Full = elim c.match-matches.branch [ in-Err-Full w ↦ w.in-Err-Full.is ∙ search rules | in_default w ↦ absurd cc | in_default-2 w ↦ absurd cc ] in record {
      sixteen = still_sixteen shards number c.acquire-answer.new.self sixteen;
      own = shards_asked 1048576 shards number (cid_of sha256 bytes) bytes c.args.core old c.acquire-answer.new.self c.acquire-answer.result
          sixteen own small (c.shard_number-number.ensures.value ∙ ap shard_of named) here
          c.acquire-answer.ensures.entered c.acquire-answer.ensures.unchanged;
      full = λ some. ∣ full_asked sha256 1048576 shards number bytes old c.acquire-answer.new.self c.index-again-number.result c.acquire-answer.result
          sixteen own small here (subst (IsLawful sha256) c.index-again-number.is c.count.ensures.lawful)
          c.acquire-answer.ensures.unchanged c.acquire-answer.ensures.fault full ∣₁;
    }

pub invariant_of-self-else-matches : goal.invariant_of-self-else-matches
invariant_of-self-else-matches c =
    let bytes = arc_value c.args.block in
    let shards = c.as_mut_slice-shards.result.now in
    let same = c.as_mut_slice-shards.ensures.value in
    let sixteen = ap length same ∙ c.args.self.now.sixteen in
    let number = c.shard_number-number.result in
    let small = c.shard_number-number.ensures.small in
    let old = slice_index_or shards number c.index-shards-number.result in
    let named = c.cid-cid.ensures ∙ ap (cid_of sha256) c.deref.ensures in record {
      sixteen = still_sixteen shards number c.acquire-answer.new.self sixteen;
      own = shards_asked 1048576 shards number (cid_of sha256 bytes) bytes c.args.core old c.acquire-answer.new.self c.acquire-answer.result
          sixteen (subst (AreShardsOf 1048576) (sym same) c.args.self.now.own) small (c.shard_number-number.ensures.value ∙ ap shard_of named)
          (found shards number c.index-shards-number.result sixteen small)
          c.acquire-answer.ensures.entered c.acquire-answer.ensures.unchanged;
      full = c.args.self.now.full;
    }

pub returns-then-matches : goal.returns-then-matches
returns-then-matches c =
    let full : c.acquire-answer.result ≡ Err Full = elim c.match-matches.branch [ in-Err-Full w ↦ w.in-Err-Full.is ∙ search rules | in_default w ↦ absurd cc | in_default-2 w ↦ absurd cc ] in
    answered_full sha256 (arc_value c.args.block) c.args.core c.args.self.now.fulls.times c.once_more-self.result.times c.acquire-answer.result full c.once_more-self.ensures

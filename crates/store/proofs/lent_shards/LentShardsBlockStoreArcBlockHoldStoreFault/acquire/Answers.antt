use Rattle.std.proofs.Common.{◌≡◌, ap, ◌∙◌, rules, slice_index_or, subst}
use Rattle.std.specs.Prelude.{Err}
use Rattle.std.specs.Arc.{arc_value}
use Rattle.spec.specs.Cid.{cid as cid_of}
use Rattle.store.specs.Table.{shard_of, IsLawful}
use Rattle.store.specs.declared.fault.StoreFault.TheVariants.{Full}
use Rattle.store.proofs.OwnBlocks.{answered_full, found, full_asked, made_here, refused_here, shards_asked, still_sixteen}
use Rattle.store.proofs.lent_shards.LentShardsBlockStoreArcBlockHoldStoreFault.acquire.Goals as goal
use Rattle.store.proofs.lent_shards.LentShardsBlockStoreArcBlockHoldStoreFault.acquire.Goals.{in-Err-Full, in_default, in_default-2}

pub invariant_of-self : goal.invariant_of-self
invariant_of-self g c =
    let digest = g.D.Digest.digest_of in
    let limit = g.row.LIMIT in
    let bytes = arc_value c.args.block in
    let shards = c.args.self.now.shards.now in
    let sixteen = c.args.self.now.sixteen in
    let number = c.shard_number-number.result in
    let small = c.shard_number-number.ensures.small in
    let old = slice_index_or shards number c.index-shards-number.result in
    let here = found shards number c.index-shards-number.result sixteen small in
    let named = c.cid-cid.ensures ∙ ap (cid_of digest) c.deref.ensures in
    let full : c.acquire-answer.result ≡ Err Full = elim c.match-matches.branch [ in-Err-Full w ↦ w.in-Err-Full.is ∙ search rules | in_default w ↦ absurd cc | in_default-2 w ↦ absurd cc ] in record {
      sixteen = still_sixteen shards number c.acquire-answer.new.self sixteen;
      own = λ new. shards_asked limit shards number (cid_of digest bytes) bytes c.args.core old c.acquire-answer.new.self c.acquire-answer.result
          sixteen (c.args.self.now.own new) small (c.shard_number-number.ensures.value ∙ ap shard_of named)
          here
          c.acquire-answer.ensures.entered c.acquire-answer.ensures.unchanged;
      full = λ new some. ∣ full_asked digest limit shards number bytes old c.acquire-answer.new.self c.index-again-number.result c.acquire-answer.result
          sixteen (c.args.self.now.own new) small here (subst (IsLawful digest) c.index-again-number.is c.count.ensures.lawful)
          c.acquire-answer.ensures.unchanged c.acquire-answer.ensures.fault full ∣₁;
    }

pub invariant_of-self-else-matches : goal.invariant_of-self-else-matches
invariant_of-self-else-matches g c =
    let digest = g.D.Digest.digest_of in
    let bytes = arc_value c.args.block in
    let shards = c.args.self.now.shards.now in
    let sixteen = c.args.self.now.sixteen in
    let number = c.shard_number-number.result in
    let small = c.shard_number-number.ensures.small in
    let old = slice_index_or shards number c.index-shards-number.result in
    let here = found shards number c.index-shards-number.result sixteen small in
    let named = c.cid-cid.ensures ∙ ap (cid_of digest) c.deref.ensures in record {
      sixteen = still_sixteen shards number c.acquire-answer.new.self sixteen;
      own = λ new. shards_asked g.row.LIMIT shards number (cid_of digest bytes) bytes c.args.core old c.acquire-answer.new.self c.acquire-answer.result
          sixteen (c.args.self.now.own new) small (c.shard_number-number.ensures.value ∙ ap shard_of named)
          here
          c.acquire-answer.ensures.entered c.acquire-answer.ensures.unchanged;
      full = c.args.self.now.full;
    }

pub returns-then-matches-clause-answer : goal.returns-then-matches-clause-answer
returns-then-matches-clause-answer g c =
    let full : c.acquire-answer.result ≡ Err Full = elim c.match-matches.branch [ in-Err-Full w ↦ w.in-Err-Full.is ∙ search rules | in_default w ↦ absurd cc | in_default-2 w ↦ absurd cc ] in
    answered_full g.D.Digest.digest_of (arc_value c.args.block) c.args.core c.args.self.now.fulls.times c.once_more-self.result.times c.acquire-answer.result full c.once_more-self.ensures

pub returns-then-matches-clause-made : goal.returns-then-matches-clause-made
returns-then-matches-clause-made g c =
    let digest = g.D.Digest.digest_of in
    let shards = c.args.self.now.shards.now in
    let number = c.shard_number-number.result in
    let small = c.shard_number-number.ensures.small in
    made_here digest (arc_value c.args.block) c.args.core shards number (slice_index_or shards number c.index-shards-number.result) c.acquire-answer.new.self c.acquire-answer.result
    c.args.self.now.sixteen small (c.shard_number-number.ensures.value ∙ ap shard_of (c.cid-cid.ensures ∙ ap (cid_of digest) c.deref.ensures))
    (found shards number c.index-shards-number.result c.args.self.now.sixteen small)
    c.acquire-answer.ensures.entered c.acquire-answer.ensures.unchanged

pub returns-then-matches-clause-refused : goal.returns-then-matches-clause-refused
returns-then-matches-clause-refused g c =
    let digest = g.D.Digest.digest_of in
    let shards = c.args.self.now.shards.now in
    let number = c.shard_number-number.result in
    refused_here digest (arc_value c.args.block) c.args.core shards number (slice_index_or shards number c.index-shards-number.result) c.acquire-answer.result
    (c.shard_number-number.ensures.value ∙ ap shard_of (c.cid-cid.ensures ∙ ap (cid_of digest) c.deref.ensures))
    (found shards number c.index-shards-number.result c.args.self.now.sixteen c.shard_number-number.ensures.small)
    c.acquire-answer.ensures.fault

pub returns-else-matches-clause-made : goal.returns-else-matches-clause-made
returns-else-matches-clause-made g c =
    let digest = g.D.Digest.digest_of in
    let shards = c.args.self.now.shards.now in
    let number = c.shard_number-number.result in
    let small = c.shard_number-number.ensures.small in
    made_here digest (arc_value c.args.block) c.args.core shards number (slice_index_or shards number c.index-shards-number.result) c.acquire-answer.new.self c.acquire-answer.result
    c.args.self.now.sixteen small (c.shard_number-number.ensures.value ∙ ap shard_of (c.cid-cid.ensures ∙ ap (cid_of digest) c.deref.ensures))
    (found shards number c.index-shards-number.result c.args.self.now.sixteen small)
    c.acquire-answer.ensures.entered c.acquire-answer.ensures.unchanged

pub returns-else-matches-clause-refused : goal.returns-else-matches-clause-refused
returns-else-matches-clause-refused g c =
    let digest = g.D.Digest.digest_of in
    let shards = c.args.self.now.shards.now in
    let number = c.shard_number-number.result in
    refused_here digest (arc_value c.args.block) c.args.core shards number (slice_index_or shards number c.index-shards-number.result) c.acquire-answer.result
    (c.shard_number-number.ensures.value ∙ ap shard_of (c.cid-cid.ensures ∙ ap (cid_of digest) c.deref.ensures))
    (found shards number c.index-shards-number.result c.args.self.now.sixteen c.shard_number-number.ensures.small)
    c.acquire-answer.ensures.fault

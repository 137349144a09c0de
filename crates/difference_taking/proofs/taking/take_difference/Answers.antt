use Rattle.std.proofs.Common.{map}
use Rattle.batches.specs.Values.{stamp_of, writes_of}
use Rattle.difference_taking.proofs.Taken.{all-had_it, differ-only, lent-is, missing-counted, refused-is, root-of_others, told-counted}
use Rattle.difference_taking.proofs.taking.take_difference.Goals as goal

pub returns-in-Err-clause-counted : goal.returns-in-Err-clause-counted
returns-in-Err-clause-counted g c =
    missing-counted g.D.Digest.digest_of (map g.K.AsSlice.items c.args.records.now) c.args.changes.now
    (g.S.BlockStore.fulls c.args.store.now) c.in-Err.fault c.in-Err.ensures.fault

pub returns-in-Ok-apply-clause-taken : goal.returns-in-Ok-apply-clause-taken
returns-in-Ok-apply-clause-taken g c =
    let digest = g.D.Digest.digest_of in
    let given = map g.K.AsSlice.items c.args.records.now in
    let cs = c.args.changes.now in
    record {
      batch = writes_of c.deref.result.now;
      batch_is = lent-is digest given cs c.in-Ok.batch.items c.deref.result.now c.in-Ok.ensures.batch c.deref.ensures.value;
      had = all-had_it digest c.args.core.now cs c.first_other.result c.first_other.ensures c.in_default.is;
      passes = c.in-Ok-apply.ensures.passes;
      after = c.in-Ok-apply.ensures.accepted;
      applied = c.in-Ok-apply.ensures.applied;
    }

pub returns-in-Ok-apply-clause-differ : goal.returns-in-Ok-apply-clause-differ
returns-in-Ok-apply-clause-differ g c =
    let digest = g.D.Digest.digest_of in
    let given = map g.K.AsSlice.items c.args.records.now in
    let cs = c.args.changes.now in
    differ-only digest g.row.B given cs c.requires.changes g.met.D.Digest.digest_len c.args.core.now c.apply.new.self
    c.in-Ok-apply.ensures.lawful (stamp_of c.args.stamp.now) (writes_of c.deref.result.now)
    (lent-is digest given cs c.in-Ok.batch.items c.deref.result.now c.in-Ok.ensures.batch c.deref.ensures.value)
    c.in-Ok-apply.ensures.accepted
    (all-had_it digest c.args.core.now cs c.first_other.result c.first_other.ensures c.in_default.is)

pub returns-in-Ok-apply-clause-root : goal.returns-in-Ok-apply-clause-root
returns-in-Ok-apply-clause-root g c =
    let digest = g.D.Digest.digest_of in
    let given = map g.K.AsSlice.items c.args.records.now in
    let cs = c.args.changes.now in
    root-of_others digest g.row.B given cs c.requires.changes g.met.D.Digest.digest_len c.args.core.now c.apply.new.self
    c.in-Ok-apply.ensures.lawful (stamp_of c.args.stamp.now) (writes_of c.deref.result.now)
    (lent-is digest given cs c.in-Ok.batch.items c.deref.result.now c.in-Ok.ensures.batch c.deref.ensures.value)
    c.in-Ok-apply.ensures.accepted

pub returns-clause-fault : goal.returns-clause-fault
returns-clause-fault g c =
    let digest = g.D.Digest.digest_of in
    let given = map g.K.AsSlice.items c.args.records.now in
    let cs = c.args.changes.now in
    let old = c.args.core.now in
    let stamp = stamp_of c.args.stamp.now in
    let full = g.S.BlockStore.fulls c.args.store.now in
    let fuller = g.S.BlockStore.fulls c.apply.new.store in
    refused-is digest g.row.B old stamp given cs full fuller (writes_of c.deref.result.now)
    (lent-is digest given cs c.in-Ok.batch.items c.deref.result.now c.in-Ok.ensures.batch c.deref.ensures.value)
    (all-had_it digest old cs c.first_other.result c.first_other.ensures c.in_default.is)
    c.in-Err-apply.place c.in-Err-apply.fault c.refused.result c.refused.ensures c.in-Err-apply.ensures.fault

pub returns-clause-counted : goal.returns-clause-counted
returns-clause-counted g c =
    told-counted (g.S.BlockStore.fulls c.args.store.now) (g.S.BlockStore.fulls c.apply.new.store) c.in-Err-apply.place c.in-Err-apply.fault
    c.refused.result c.in-Err-apply.ensures.counted c.refused.ensures

use Rattle.std.specs.Slice.Iter.{iter_rest}
use Rattle.block.specs.Bytes.{record_in, shared_record}
use Rattle.block.proofs.Together.{first_pair, one_more, all_done, ended, first-record, one-some, others-have}
use Rattle.block.proofs.block.Block.of_writes.Goals as goal

pub of_write-requires : goal.of_write-requires
of_write-requires g c =
    (first_pair (λ w. g.D.Digest.digest_of (record_in w)) _ _ _ c.in-Some.ensures.steps.0.0 _ _ _ c.in-Some.ensures.steps.1 c.loop-write.invariant.digests).0

pub loop-write-preserved : goal.loop-write-preserved
loop-write-preserved g c =
    record {
      made = one_more shared_record _ _ _ c.in-Some.ensures.steps.0.0 _ _ _ _ (one-some _ _ _ c.in_ok-push.ensures.items)
          (first-record _ _ _ c.in-Some.ensures.steps.0.0 c.loop-write.invariant.records _ c.of_write.ensures) c.loop-write.invariant.made;
      digests = (first_pair (λ w. g.D.Digest.digest_of (record_in w)) _ _ _ c.in-Some.ensures.steps.0.0 _ _ _ c.in-Some.ensures.steps.1 c.loop-write.invariant.digests).1;
      records = others-have _ _ _ c.in-Some.ensures.steps.0.0 c.loop-write.invariant.records;
    }

pub returns : goal.returns
returns g c =
    let rest = c.loop-write.write-iterator.a.rest in
    all_done shared_record _ _ rest.items
    (ended (λ w. g.D.Digest.digest_of (record_in w)) rest.items (iter_rest c.loop-write.write-iterator.b) rest.len rest.ok.0 c.loop-write.invariant.digests c.in-None.ensures.steps)
    c.loop-write.invariant.made

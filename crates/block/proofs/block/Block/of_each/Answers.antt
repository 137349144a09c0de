use Rattle.std.specs.Slice.Iter.{iter_rest}
use Rattle.block.proofs.Together.{first_pair, one_more, all_done, ended}
use Rattle.block.proofs.block.Block.of_each.Goals as goal

pub with_digest-requires : goal.with_digest-requires
with_digest-requires g c =
    (first_pair (λ bytes. g.D.Digest.digest_of bytes.items) _ _ _ c.in-Some.ensures.steps.0.0 _ _ _ c.in-Some.ensures.steps.1 c.loop-bytes.invariant.digests).0

pub loop-bytes-preserved : goal.loop-bytes-preserved
loop-bytes-preserved g c =
    record {
      made = one_more (λ bytes. bytes.items) _ _ _ c.in-Some.ensures.steps.0.0 _ _ _ _ c.in_ok-push.ensures.items c.with_digest.ensures c.loop-bytes.invariant.made;
      digests = (first_pair (λ bytes. g.D.Digest.digest_of bytes.items) _ _ _ c.in-Some.ensures.steps.0.0 _ _ _ c.in-Some.ensures.steps.1 c.loop-bytes.invariant.digests).1;
    }

pub returns : goal.returns
returns g c =
    let rest = c.loop-bytes.bytes-iterator.a.rest in
    all_done (λ bytes. bytes.items) _ _ rest.items
    (ended (λ bytes. g.D.Digest.digest_of bytes.items) rest.items (iter_rest c.loop-bytes.bytes-iterator.b) rest.len rest.ok.0 c.loop-bytes.invariant.digests c.in-None.ensures.steps)
    c.loop-bytes.invariant.made

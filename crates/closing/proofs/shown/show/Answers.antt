use Rattle.batches.specs.Values.{shared_writes, stamps_of}
use Rattle.kept.specs.Uses.{used_blocks}
use Rattle.closing.proofs.FromScratch.{from_scratch}
use Rattle.closing.proofs.shown.show.Goals as goal

pub returns-clause-from_scratch : goal.returns-clause-from_scratch
returns-clause-from_scratch g c =
    from_scratch g.D.Digest.digest_of g.row.B c.args.core.now (shared_writes c.accepted.result.now) (stamps_of c.stamps.result.now) c.root.result c.commit.result (used_blocks c.blocks-2.result.entries)
    c.accepted.ensures.lawful c.accepted.ensures.value c.stamps.ensures.value c.root.ensures.value c.commit.ensures.value c.blocks-2.ensures.blocks

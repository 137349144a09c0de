use Rattle.std.proofs.Common.{◌∙◌, ◌++◌, ap, map}
use Rattle.spec.specs.Cid.{prefix}
use Rattle.buffers.specs.Answers.{cids_bytes}
use Rattle.tizulgech.proofs.Knowing.{cids_spelt}
use Rattle.tizulgech.proofs.cids.cids_of.Goals as goal

pub returns : goal.returns
returns c = cids_spelt (λ block. block.now) c.args.blocks.now c.in_ok-digests.digests.items c.new-bytes.result.items c.push_digests.new.bytes.items c.new-bytes.ensures.items
    c.in_ok-digests.ensures
    (c.in_ok-push_digests.ensures ∙ ap (λ ds. c.new-bytes.result.items ++ cids_bytes (map (λ digest. prefix ++ digest) ds)) c.deref.ensures.value)

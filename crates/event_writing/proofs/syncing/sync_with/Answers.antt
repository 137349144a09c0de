use Rattle.batches.specs.Values.{stamp_of}
use Rattle.event_writing.specs.Syncing.{sync_told_of}
use Rattle.event_writing.proofs.SyncMessage.{sync-made}
use Rattle.event_writing.proofs.syncing.sync_with.Goals as goal

pub returns : goal.returns
returns g c =
    sync-made g.D.Digest.digest_of (stamp_of c.args.stamp.now) c.args.commit.now (sync_told_of c.args.told.now)
    c.in_ok-file.file.items c.deref.result.now c.in_ok-bytes.bytes.items c.in_ok-file.ensures c.deref.ensures.value
    c.in_ok-bytes.ensures

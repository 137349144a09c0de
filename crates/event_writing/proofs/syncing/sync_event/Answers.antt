use Rattle.batches.specs.Values.{stamp_of, stamps_of}
use Rattle.event_writing.specs.Views.{untold_fault_of}
use Rattle.event_writing.specs.Syncing.{sync_told_of}
use Rattle.event_writing.proofs.SyncMessage.{gives-sync, sync-none}
use Rattle.event_writing.proofs.syncing.sync_event.Goals as goal

pub returns-in-Some : goal.returns-in-Some
returns-in-Some g c =
    gives-sync g.D.Digest.digest_of g.row.B c.args.core.now (sync_told_of c.args.told.now)
    (stamps_of c.stamps.result.now) (stamp_of c.in-Some.stamp.now) c.stamps.ensures.value c.in-Some.ensures
    (λ m. m.items) untold_fault_of c.stamped_sync.result c.stamped_sync.ensures

pub returns-in-None : goal.returns-in-None
returns-in-None g c =
    sync-none g.D.Digest.digest_of g.row.B c.args.core.now (sync_told_of c.args.told.now)
    (stamps_of c.stamps.result.now) c.stamps.ensures.value c.in-None.ensures

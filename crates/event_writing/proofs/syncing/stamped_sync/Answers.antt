use Rattle.std.proofs.Common.{List, ℕ, ap, ◌∙◌}
use Rattle.spec.specs.SignedCommits.{signed_bytes}
use Rattle.spec.specs.States.{records}
use Rattle.export_laws.specs.SignedCars.{signed_commit}
use Rattle.batches.specs.Values.{stamp_of}
use Rattle.event_writing.specs.Views.{untold_fault_of}
use Rattle.event_writing.specs.Syncing.{sync_told_of}
use Rattle.event_writing.proofs.SyncMessage.{tested-sync}
use Rattle.event_writing.proofs.syncing.stamped_sync.Goals as goal

pub returns : goal.returns
returns g c =
    let stamp = stamp_of c.args.stamp.now in
    let told = sync_told_of c.args.told.now in
    tested-sync g.D.Digest.digest_of g.row.B (records c.args.core.now) stamp told c.in_ok-test_sync.field-0 c.in_ok-test_sync.ensures
    c.in_ok-commit.commit
    (c.in_ok-commit.ensures ∙ ap (λ (r : List ℕ). signed_bytes (signed_commit stamp r told.sig)) c.root-root.ensures.value)
    (λ m. m.items) untold_fault_of c.sync_with.result c.sync_with.ensures

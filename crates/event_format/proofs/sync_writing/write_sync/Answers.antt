use Rattle.event_format.proofs.Spelling.{whole}
use Rattle.event_format.proofs.sync_writing.write_sync.Goals as goal

pub returns : goal.returns
returns g c =
    whole _ _ _ _ _ _ _ c.new-out.ensures.items c.in_ok-extend_from_slice.ensures.items c.in_ok-push_head.ensures.ok
    c.in_ok-push_fields.ensures

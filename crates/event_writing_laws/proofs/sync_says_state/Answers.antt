use Rattle.event_writing_laws.proofs.SyncSays.{sync-says}
use Rattle.event_writing_laws.proofs.sync_says_state.Goals as goal

pub returns : goal.returns
returns c = sync-says

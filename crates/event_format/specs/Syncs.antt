-- What a message of a state that is lent stands for.
use Rattle.event_laws.specs.Syncs as syncs
use Rattle.event_format.specs.declared.sync_event.SyncEvent.{SyncEvent}

abbrev pub sync_of : SyncEvent → syncs.SyncEvent
sync_of s = record {
  seq = s.seq;
  did = s.did.now;
  blocks = s.blocks.now;
  rev = s.rev.now;
  time = s.time.now;
}

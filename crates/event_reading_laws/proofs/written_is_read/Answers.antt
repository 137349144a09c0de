use Rattle.event_reading_laws.proofs.ReadBack.{written-is_read}
use Rattle.event_reading_laws.proofs.written_is_read.Goals as goal

pub returns : goal.returns
returns c = written-is_read

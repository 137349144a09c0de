use Rattle.event_writing_laws.proofs.Taken.{written-is_taken}
use Rattle.event_writing_laws.proofs.written_is_taken.Goals as goal

pub returns : goal.returns
returns c = written-is_taken

use Rattle.batch_laws.proofs.WritesAtOnce.{key-is_known}
use Rattle.batch_laws.proofs.collecting.key_is_known.Goals as goal

pub returns : goal.returns
returns c = key-is_known

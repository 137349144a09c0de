use Rattle.batch_laws.proofs.WritesAtOnce.{passed-have_keys}
use Rattle.batch_laws.proofs.collecting.passed_have_keys.Goals as goal

pub returns : goal.returns
returns c = passed-have_keys

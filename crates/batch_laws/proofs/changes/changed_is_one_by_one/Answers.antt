use Rattle.batch_laws.proofs.OneByOne.{changed-one_by_one}
use Rattle.batch_laws.proofs.changes.changed_is_one_by_one.Goals as goal

pub returns : goal.returns
returns c = changed-one_by_one

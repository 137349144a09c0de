use Rattle.batch_laws.proofs.ChangedUses.{changes-keep_uses}
use Rattle.batch_laws.proofs.uses.changes_keep_uses.Goals as goal

pub returns : goal.returns
returns c = changes-keep_uses

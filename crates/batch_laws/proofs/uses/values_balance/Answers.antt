use Rattle.batch_laws.proofs.ChangedUses.{values-balance}
use Rattle.batch_laws.proofs.uses.values_balance.Goals as goal

pub returns : goal.returns
returns c = values-balance

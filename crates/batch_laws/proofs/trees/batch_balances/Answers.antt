use Rattle.batch_laws.proofs.Blocks.{batch-balances}
use Rattle.batch_laws.proofs.trees.batch_balances.Goals as goal

pub returns : goal.returns
returns c = batch-balances

use Rattle.batch_laws.proofs.OverSource.{batch-over_source}
use Rattle.batch_laws.proofs.sources.batch_over_a_source.Goals as goal

pub returns : goal.returns
returns c = batch-over_source

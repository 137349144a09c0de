use Rattle.batch_laws.proofs.ReadsFew.{batch-reads_few}
use Rattle.batch_laws.proofs.reads.batch_reads_few.Goals as goal

pub returns : goal.returns
returns c = batch-reads_few

use Rattle.batch_laws.proofs.DeleteReads.{delete-reads}
use Rattle.batch_laws.proofs.reads.one_delete_reads_as_along_the_path.Goals as goal

pub returns : goal.returns
returns c = delete-reads

use Rattle.batch_laws.proofs.PutReads.{put-reads_path}
use Rattle.batch_laws.proofs.reads.one_put_reads_the_path.Goals as goal

pub returns : goal.returns
returns c = put-reads_path

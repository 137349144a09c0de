use Rattle.edit_laws.proofs.LookupTheorems.{path-is_read}
use Rattle.edit_laws.proofs.lookups.path_is_what_find_reads.Goals as goal

pub returns : goal.returns
returns c = path-is_read

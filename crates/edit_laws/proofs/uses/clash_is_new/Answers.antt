use Rattle.edit_laws.proofs.BlockSources.{clash-new}
use Rattle.edit_laws.proofs.uses.clash_is_new.Goals as goal

pub returns : goal.returns
returns c = clash-new

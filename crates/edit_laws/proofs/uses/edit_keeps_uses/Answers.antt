use Rattle.edit_laws.proofs.Using.{edit-uses}
use Rattle.edit_laws.proofs.uses.edit_keeps_uses.Goals as goal

pub returns : goal.returns
returns c = edit-uses

use Rattle.edit_laws.proofs.Writing.{commit-uses}
use Rattle.edit_laws.proofs.uses.commit_keeps_uses.Goals as goal

pub returns : goal.returns
returns c = commit-uses

use Rattle.std.proofs.Common.{ap, ◌∙◌}
use Rattle.spec.specs.States.{state_root}
use Rattle.repo.proofs.cores.Core.root.Goals as goal

pub returns-clause-value : goal.returns-clause-value
returns-clause-value g c = c.self.invariant.root_is ∙ ap (state_root g.D.Digest.digest_of g.row.B) c.self.view_is

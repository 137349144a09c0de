use Rattle.std.proofs.Common.{ap, ◌∙◌}
use Rattle.spec.specs.States.{state_commit}
use Rattle.repo.proofs.cores.Core.commit.Goals as goal

pub returns-clause-value : goal.returns-clause-value
returns-clause-value g c = c.self.invariant.commit_is ∙ ap (state_commit g.D.Digest.digest_of g.row.B) c.self.view_is

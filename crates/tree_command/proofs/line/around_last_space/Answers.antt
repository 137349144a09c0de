use Rattle.tree_command.proofs.Spaces.{last_space}
use Rattle.tree_command.proofs.line.around_last_space.Goals as goal

pub returns-clause-after : goal.returns-clause-after
returns-clause-after c = (last_space c.args.line.now c.in_ok-space.space c.in_ok-space.ensures).after

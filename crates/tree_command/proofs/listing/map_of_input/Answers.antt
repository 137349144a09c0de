use Rattle.std.proofs.Common.{rules}
use Rattle.tree_command.specs.TreeText.{map_of_input}
use Rattle.tree_command.proofs.listing.map_of_input.Goals as goal

pub returns : goal.returns
unfolding map_of_input
returns g c = search rules

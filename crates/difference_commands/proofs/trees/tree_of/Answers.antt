use Rattle.difference_commands.proofs.Owning.{are-pairs}
use Rattle.difference_commands.proofs.trees.tree_of.Goals as goal

pub returns-in-Ok-clause-tree : goal.returns-in-Ok-clause-tree
returns-in-Ok-clause-tree g c = record {
  pairs = are-pairs c.args.entries.now c.requires c.have_own_cids.ensures.own c.have_own_cids.ensures.count;
  root_is = c.in-Ok.ensures.root;
  blocks_are = c.in-Ok.ensures.blocks;
}

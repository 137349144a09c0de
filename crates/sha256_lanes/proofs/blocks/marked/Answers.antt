use Rattle.sha256_lanes.proofs.BlockLemmas.{marked_is}
use Rattle.sha256_lanes.proofs.blocks.marked.Goals as goal

pub returns : goal.returns
returns c = marked_is c.copy_from_slice.new.self c.args.rest.now c.copy_from_slice.ensures.after c.requires

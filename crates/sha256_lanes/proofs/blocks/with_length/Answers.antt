use Rattle.sha256_lanes.proofs.BlockLemmas.{with_length_is}
use Rattle.std.proofs.Common.{◌∙◌}
use Rattle.sha256_lanes.proofs.blocks.with_length.Goals as goal

pub returns : goal.returns
returns c = with_length_is c.args.block c.copy_from_slice.new.self _ (c.copy_from_slice.ensures.after ∙ c.to_be_bytes.ensures) c.requires

use Rattle.std.proofs.Common.{subst}
use Rattle.std.specs.List.Sorted.{IsPermutation}
use Rattle.kept.specs.Counts.{Keeping, blocks_of}
use Rattle.kept.specs.Uses.{used_blocks}
use Rattle.kept.proofs.Listing.{used_shuffled}
use Rattle.kept.proofs.kept.Kept.blocks.Goals as goal

pub returns : goal.returns
returns g c =
    subst (λ (k : Keeping). IsPermutation (blocks_of k.uses) (used_blocks c.iter.result)) c.self.view_is
    (used_shuffled c.iter.result c.self.inside.blocks c.iter.ensures.entries c.iter.ensures.distinct (λ q u e. (c.self.invariant.entries q u e).used))

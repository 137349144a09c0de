use Rattle.block_tests.proofs.one_hash.release_third.Given as goal

abbrev pub decreases-loop-hold : goal.decreases-loop-hold
decreases-loop-hold l = goal.left-loop-hold l

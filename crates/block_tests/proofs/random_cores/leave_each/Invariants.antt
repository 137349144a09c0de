use Rattle.block_tests.proofs.random_cores.leave_each.Given as goal

abbrev pub decreases-loop-hold : goal.decreases-loop-hold
decreases-loop-hold g l = goal.left-loop-hold g l

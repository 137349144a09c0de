use Rattle.repository_check.proofs.Taken.{Takes}
use Rattle.repository_check.proofs.records.records_in.Given as goal

-- the records so far and those to come are all
abbrev pub invariant-loop-place : goal.invariant-loop-place
invariant-loop-place g l = Takes l.places l.pairs l.place l.records.items

use Rattle.spec.specs.Blocks.{pairs}
use Rattle.spec.specs.States.{records}
use Rattle.difference_taking.proofs.Having.{Had}
use Rattle.difference_taking.proofs.values.first_other.Given as goal

abbrev pub invariant-loop-place : goal.invariant-loop-place
invariant-loop-place g l = Had (pairs g.D.Digest.digest_of (records l.core)) l.changes l.place

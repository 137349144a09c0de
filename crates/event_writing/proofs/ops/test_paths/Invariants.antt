use Rattle.event_writing_laws.specs.Telling.{path_test}
use Rattle.event_writing.proofs.EachOp.{Tests}
use Rattle.event_writing.proofs.ops.test_paths.Given as goal

abbrev pub invariant-loop-place : goal.invariant-loop-place
invariant-loop-place l = Tests path_test l.ops l.place

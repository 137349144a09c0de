use Rattle.std.proofs.Common.{Result, sym, subst, ◌∙◌}
use Rattle.spec.specs.Writes.{WriteFault}
use Rattle.batches.specs.Tests.{write_fault, IsTestFault}
use Rattle.batches.specs.Values.{write_of}
use Rattle.repo.specs.Tested.{changes_in}
use Rattle.repo.proofs.TestedWrites.{tested-by}
use Rattle.repo.proofs.write_tests.test_next.Goals as goal

pub returns-in-Ok-clause-passed : goal.returns-in-Ok-clause-passed
returns-in-Ok-clause-passed g c = λ es tree.
    tested-by c.args.room (changes_in c.args.changes.now) es (write_of c.args.write.now) c.there_next-found.result.0
    c.if-not-room.false (c.there_next-found.ensures.there es tree)
    ∙ c.in-Ok.ensures.passed

pub returns-in-Err-clause-fault : goal.returns-in-Err-clause-fault
returns-in-Err-clause-fault g c = λ es tree.
    let same = tested-by c.args.room (changes_in c.args.changes.now) es (write_of c.args.write.now) c.there_next-found.result.0
    c.if-not-room.false (c.there_next-found.ensures.there es tree) in
    subst (λ (r : Result (Unit {0}) WriteFault). IsTestFault write_fault r c.in-Err.fault) (sym same) c.in-Err.ensures.fault

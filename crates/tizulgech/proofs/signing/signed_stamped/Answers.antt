use Rattle.batches.specs.Values.{stamp_of}
use Rattle.tizulgech.proofs.Tested.{test_cause}
use Rattle.tizulgech.proofs.signing.signed_stamped.Goals as goal

pub returns-in-Err-clause-cause : goal.returns-in-Err-clause-cause
returns-in-Err-clause-cause c =
    test_cause c.args.repo.now.state (stamp_of c.args.stamp.now) c.args.repo.now.pending c.in-Err.at c.in-Err.fault c.in-Err.ensures.fault
    c.code_of_fault.result c.code_of_fault.ensures

-- A batch is tested write by write.
use Rattle.std.proofs.Common.{◌≡◌, ◌<◌, List, ◌∷◌, ◌++◌, length, ap, ◌∙◌, arith, Ok, Err}
use Rattle.std.proofs.lemmas.List.{length-append}
use Rattle.spec.specs.Writes.{Write, WriteFault, limited_test, batch_test}
use Rattle.spec.specs.Stamps.{Stamp, stamp_test, rev_of, last}
use Rattle.spec.specs.States.{State, OfWrite, state_test, of_writes}
use Rattle.spec.proofs.BatchSteps.{batch-ends}
use Rattle.spec.proofs.StateLaws.{stamp-then_writes}
use Rattle.edit_laws.specs.Staged.{records_after}

-- a batch of which these writes passed passes so far
pub staged-passes : (s : State) (stamp : Stamp) (before : List Write) → 0 < length before
    → stamp_test (rev_of (last s.stamps)) stamp ≡ Ok tt
    → batch_test s.limit s.accepted before ≡ Ok tt → state_test s stamp before ≡ Ok tt
staged-passes s stamp before some h k = stamp-then_writes s stamp before some h ∙ ap of_writes k

-- and is refused at the next write where that one doesn't pass, whatever follows
pub staged-ends : (s : State) (stamp : Stamp) (before after : List Write) (w : Write)
    (fault : WriteFault)
    → stamp_test (rev_of (last s.stamps)) stamp ≡ Ok tt
    → batch_test s.limit s.accepted before ≡ Ok tt
    → limited_test s.limit (length (s.accepted ++ before)) (records_after s before) w ≡ Err fault
    → state_test s stamp (before ++ w ∷ after) ≡ Err (length before, OfWrite fault)
staged-ends s stamp before after w fault h k fails =
    let l = length-append before (w ∷ after) in
    stamp-then_writes s stamp (before ++ w ∷ after) (omega arith) h ∙ ap of_writes (batch-ends s.limit s.accepted before after w fault k fails)

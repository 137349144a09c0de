-- What is done where a repository follows a message.
use Rattle.std.specs.Prelude.{◌≡◌, ℕ, List, [], Option, Some, None, Ok}
use Rattle.spec.specs.Blocks.{pairs, root as root_of}
use Rattle.spec.specs.CarReading.{blocks_of}
use Rattle.spec.specs.Stamps.{Stamp}
use Rattle.spec.specs.States.{State, records, state_root}
use Rattle.batch_laws.specs.Batch.{changed}
use Rattle.step_laws.specs.Turned.{done}
use Rattle.event_laws.specs.Events.{Event}
use Rattle.event_laws.specs.Verdict.{Checked, ordered_ops}
use Rattle.commit_events.specs.Reading.{told_message}
use Rattle.difference_taking.specs.Taking.{DifferOnlyBy, IsTaken}
use Rattle.repo.specs.declared.applied.Applied.{Applied}

-- the stamp of a message's batch
abbrev pub stamp_in : Event → Stamp
stamp_in e = record { did = e.did; rev = e.rev }

-- the root to which a message's operations lead from a repository
abbrev pub led_to : (List ℕ → List ℕ) → ℕ → State → Event → List ℕ
led_to digest bits s e = root_of digest bits (changed (done (ordered_ops e.ops)) (pairs digest (records s)))

-- the batch of a message's operations is done, or where it has none nothing
abbrev pub AreDone : (List ℕ → List ℕ) → ℕ → State → State → Checked → Option Applied → Type 0
AreDone digest bits old new x None = (x.event.ops ≡ []) × (new ≡ old)
AreDone digest bits old new x (Some a) =
    IsTaken digest bits old new (stamp_in x.event) (blocks_of x.sections) (ordered_ops x.event.ops) a

-- A message says this of the repository as it was, and its operations are done: the repository has the root that the commit names,
-- and each key of the operations had and has what they tell, and the others have what they had.
pub record IsFollowed (digest : List ℕ → List ℕ) (bits : ℕ) (old new : State) (message : List ℕ) (x : Checked)
    (a : Option Applied) : Type 0 where
  pub read : told_message digest (state_root digest bits old) message ≡ Ok x
  pub root_is : state_root digest bits new ≡ x.commit.root
  pub differ : DifferOnlyBy digest old new (ordered_ops x.event.ops)
  pub taken : AreDone digest bits old new x a

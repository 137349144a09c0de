-- The message #commit of a batch that isn't accepted yet: what it will be once the batch is.
use Rattle.std.specs.Prelude.{ℕ, List, map, Option, Result}
use Rattle.spec.specs.Blocks.{value_of}
use Rattle.spec.specs.Stamps.{Stamp}
use Rattle.spec.specs.Writes.{Write}
use Rattle.spec.specs.States.{State, after_batch, state_root}
use Rattle.batch_laws.specs.Batch.{Change}
use Rattle.batch_laws.specs.Collecting.{collected, with_cids}
use Rattle.batch_laws.specs.Staged.{old_pairs}
use Rattle.change_laws.specs.Told.{KeyChange}
use Rattle.event_laws.specs.Events.{Event}
use Rattle.event_writing_laws.specs.Telling.{Told, UntoldFault}
use Rattle.event_writing_laws.specs.Messages.{batch_event, batch_message}

-- a change with what its key had in these pairs
abbrev pub told_change : List (List ℕ × List ℕ) → Change → KeyChange
told_change es c = record { key = c.0; before = value_of c.0 es; after = c.1 }

-- what a batch changes: each key that its writes name, with the CIDs of its records before and after, in the order of the keys
abbrev pub batch_changes : (List ℕ → List ℕ) → State → List Write → List KeyChange
batch_changes digest s batch = map (told_change (old_pairs digest s)) (with_cids digest (collected batch))

-- what the message of a batch on a state says, or why it can't be told
abbrev pub signed_event : (List ℕ → List ℕ) → ℕ → State → Stamp → List Write → Told → Result Event UntoldFault
signed_event digest bits s stamp batch told =
    batch_event digest bits (after_batch s stamp batch) (state_root digest bits s) (batch_changes digest s batch) told

-- and its bytes
abbrev pub signed_message : (List ℕ → List ℕ) → ℕ → State → Stamp → List Write → Told → Result (List ℕ) UntoldFault
signed_message digest bits s stamp batch told =
    batch_message digest bits (after_batch s stamp batch) (state_root digest bits s) (batch_changes digest s batch) told

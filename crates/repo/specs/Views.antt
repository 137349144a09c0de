-- A core's fields as its state.
use Rattle.std.specs.Prelude.{ℕ, List}
use Rattle.std.specs.declared.sync.Arc.{Arc}
use Rattle.spec.specs.States.{State}
use Rattle.batches.specs.Values.{shared_writes, stamps_of}
use Rattle.batches.specs.Write.{Write}
use Rattle.batches.specs.declared.stamp.Stamp.{Stamp}

-- a core's state, by its fields
abbrev pub state_view : {A : Type 0} → ℕ → ℕ → List (Arc (Write A) A) → List (Stamp A × ℕ) → State
state_view me limit accepted stamps =
    record { me = me; limit = limit; accepted = shared_writes accepted; stamps = stamps_of stamps }

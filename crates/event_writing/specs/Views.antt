-- What is told, as the definitions see it, and their faults that those of the code are; of a want of memory they know nothing.
use Rattle.std.specs.Prelude.{Option, Some, None, option_map}
use Rattle.change_laws.specs.Given as given
use Rattle.event_format.specs.Views.{form_fault_of}
use Rattle.event_writing_laws.specs.Telling as telling
use Rattle.change_proofs.specs.declared.change_fault.ChangeFault.{ChangeFault}
use Rattle.change_proofs.specs.declared.change_fault.ChangeFault.TheVariants as changes
use Rattle.event_writing.specs.declared.told.Told.{Told}
use Rattle.event_writing.specs.declared.fault.UntoldFault.{UntoldFault}
use Rattle.event_writing.specs.declared.fault.UntoldFault.TheVariants as errors

abbrev pub told_of : Told → telling.Told
told_of t = record { seq = t.seq; time = t.time.now; since = option_map (λ s. s.now) t.since; sig = t.sig.now }

abbrev pub untold_fault_of : UntoldFault → Option telling.UntoldFault
untold_fault_of errors.NoBatch = Some telling.NoBatch
untold_fault_of errors.BadSeq = Some telling.BadSeq
untold_fault_of (errors.Form f) = option_map telling.OfForm (form_fault_of f)
untold_fault_of (errors.OtherValue place) = Some (telling.NotShown (given.OtherValue place))
untold_fault_of (errors.RecordSize place) = Some (telling.RecordSize place)
untold_fault_of errors.NoMemory = None

-- what a fault of a proof is to a message: over all blocks of a repository the others don't come
abbrev pub untold_as : ChangeFault → UntoldFault
untold_as (changes.BlockMissing c) = errors.NoMemory
untold_as (changes.BadNode c) = errors.NoMemory
untold_as changes.TooDeep = errors.NoMemory
untold_as changes.NotTree = errors.NoMemory
untold_as (changes.OtherValue place) = errors.OtherValue place
untold_as changes.OtherRoot = errors.NoMemory
untold_as changes.NoMemory = errors.NoMemory

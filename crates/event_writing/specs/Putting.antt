-- Blocks that are put into a file, one after the other.
use Rattle.std.specs.Prelude.{◌≡◌, ◌<◌, ⊤, ℕ, List, ◌++◌, length}
use Rattle.car_writing.specs.Once.{Written, file_with}
use Rattle.event_times.specs.Limits.{most_blocks_bytes}
use Rattle.event_format.specs.declared.fault.FormFault.TheVariants as forms
use Rattle.event_writing.specs.declared.fault.UntoldFault.{UntoldFault}
use Rattle.event_writing.specs.declared.fault.UntoldFault.TheVariants as errors

-- these blocks were put: whatever blocks follow, the file is the one that they and these before them make
abbrev pub ArePut : (List ℕ → List ℕ) → List (List ℕ) → Written → Written → Type 0
ArePut digest bs old new = (rest : List (List ℕ)) → file_with digest new rest ≡ file_with digest old (bs ++ rest)

-- a file with these blocks is too long, or memory is wanted
abbrev pub IsTooLong : (List ℕ → List ℕ) → List (List ℕ) → Written → UntoldFault → Type 0
IsTooLong digest bs old errors.NoBatch = ⊥
IsTooLong digest bs old errors.BadSeq = ⊥
IsTooLong digest bs old (errors.Form f) = (f ≡ forms.BlocksSize)
    × ((rest : List (List ℕ)) → most_blocks_bytes < length (file_with digest old (bs ++ rest)))
IsTooLong digest bs old (errors.OtherValue place) = ⊥
IsTooLong digest bs old (errors.RecordSize place) = ⊥
IsTooLong digest bs old errors.NoMemory = ⊤

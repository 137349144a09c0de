-- Reading at a level.
use Rattle.std.specs.Prelude.{ℕ, zero, suc, Result, Ok, Err}
use Rattle.spec.specs.Head.{CborFault, TooDeep}
use Rattle.spec.specs.DagCbor.{Value, CborReader, value_at}

-- what reads the items of a list or a map where this many levels are left for it, or the fault where none is
abbrev pub within : ℕ → Result (CborReader Value) CborFault
within zero = Err TooDeep
within (suc levels) = Ok (value_at levels)

-- Values that are passed over.
use Rattle.std.specs.Prelude.{ℕ, Bool, true, false, List, Result, Ok}
use Rattle.spec.specs.Reading.{◌>>=◌}
use Rattle.spec.specs.Head.{CborFault, Major, UnsignedInteger, NegativeInteger, ByteString, TextString, Array, Map, Tag, SimpleValue}
use Rattle.spec.specs.DagCbor.{read}
use Rattle.spec.specs.Writes.{is_map}

-- the bytes after what was read
abbrev pub after : {A : Type 0} → Result (A × List ℕ) CborFault → Result (List ℕ) CborFault
after read = read >>= λ r. Ok r.1

-- whether a head of this major type begins a map
abbrev pub is_map_head : Major → Bool
is_map_head UnsignedInteger = false
is_map_head NegativeInteger = false
is_map_head ByteString = false
is_map_head TextString = false
is_map_head Array = false
is_map_head Map = true
is_map_head Tag = false
is_map_head SimpleValue = false

-- whether the value that bytes spell is a map, or the first fault
abbrev pub spells_map : List ℕ → Result Bool CborFault
spells_map bytes = read bytes >>= λ v. Ok (is_map v)

-- Where the bytes of a block are.
use Rattle.std.specs.Prelude.{ℕ, Bool, List, [], Option, is_some}
use Rattle.std.specs.Option.{unwrap_or}
use Rattle.std.specs.Arc.{arc_value}
use Rattle.std.specs.declared.sync.Arc.{Arc}
use Rattle.spec.specs.Writes.{record_of}
use Rattle.block.specs.Writes.{write_of}
use Rattle.block.specs.declared.write.Write.{Write}
use Rattle.block.specs.declared.bytes.Bytes.{Bytes}
use Rattle.block.specs.declared.bytes.Bytes.TheVariants.{Own, OfWrite}

-- the record that a shared write leaves, where it leaves one
abbrev pub shared_record : {A : Type 0} → Arc (Write A) A → Option (List ℕ)
shared_record w = record_of (write_of (arc_value w))

-- it leaves one
abbrev pub has_record : {A : Type 0} → Arc (Write A) A → Bool
has_record w = is_some (shared_record w)

-- the record's bytes, and none where there is no record
abbrev pub record_in : {A : Type 0} → Arc (Write A) A → List ℕ
record_in w = unwrap_or (shared_record w) []

-- a block's bytes are its own, or the record of a write
abbrev pub bytes_in : {A : Type 0} → Bytes A → List ℕ
bytes_in (Own bytes) = bytes.items
bytes_in (OfWrite w) = record_in w

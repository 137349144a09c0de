-- The names of a record's faults, as standard error and reports show them (a choice of this project): a fault inside a fault
-- stands in parentheses.
use Rattle.std.specs.Prelude.{ℕ, List, ◌++◌, codes}
use Rattle.dagcbor.specs.declared.fault.CborFault.{CborFault}
use Rattle.dagcbor.specs.declared.fault.CborFault.TheVariants as cbor

abbrev pub cbor_name : CborFault → List ℕ
cbor_name cbor.Truncated = codes "Truncated"
cbor_name cbor.LongHead = codes "LongHead"
cbor_name cbor.Indefinite = codes "Indefinite"
cbor_name cbor.BadTag = codes "BadTag"
cbor_name cbor.BadLink = codes "BadLink"
cbor_name cbor.KeyNotText = codes "KeyNotText"
cbor_name cbor.KeyOrder = codes "KeyOrder"
cbor_name cbor.BadUtf8 = codes "BadUtf8"
cbor_name cbor.Float = codes "Float"
cbor_name cbor.Simple = codes "Simple"
cbor_name cbor.IntegerRange = codes "IntegerRange"
cbor_name cbor.TooDeep = codes "TooDeep"
cbor_name cbor.Trailing = codes "Trailing"
cbor_name cbor.NoMemory = codes "NoMemory"

abbrev pub bad_record_name : CborFault → List ℕ
bad_record_name fault = codes "BadRecord(" ++ cbor_name fault ++ codes ")"

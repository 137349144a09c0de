-- The definitions' kind of fault that a `JsonFaultKind` is, but for want of memory, of which they know nothing.
use Rattle.std.specs.Prelude.{Option, Some, None}
use Rattle.record_json.specs.Reading as reading
use Rattle.record_json.specs.declared.fault.JsonFaultKind.{JsonFaultKind}
use Rattle.record_json.specs.declared.fault.JsonFaultKind.TheVariants as kinds

abbrev pub kind_of : JsonFaultKind → Option reading.Kind
kind_of kinds.NotJson = Some reading.NotJson
kind_of kinds.DoubledKey = Some reading.DoubledKey
kind_of kinds.Float = Some reading.Float
kind_of kinds.IntegerRange = Some reading.IntegerRange
kind_of kinds.BadLink = Some reading.BadLink
kind_of kinds.BadBytes = Some reading.BadBytes
kind_of kinds.BadDollar = Some reading.BadDollar
kind_of kinds.TooDeep = Some reading.TooDeep
kind_of kinds.NotAMap = Some reading.NotAMap
kind_of kinds.NoMemory = None

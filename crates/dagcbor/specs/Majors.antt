-- The definitions' major type that a `Major` is.
use Rattle.spec.specs.Head as head
use Rattle.dagcbor.specs.declared.major.Major.{Major}
use Rattle.dagcbor.specs.declared.major.Major.TheVariants as majors

abbrev pub major_view : Major → head.Major
major_view majors.UnsignedInteger = head.UnsignedInteger
major_view majors.NegativeInteger = head.NegativeInteger
major_view majors.ByteString = head.ByteString
major_view majors.TextString = head.TextString
major_view majors.Array = head.Array
major_view majors.Map = head.Map
major_view majors.Tag = head.Tag
major_view majors.SimpleValue = head.SimpleValue

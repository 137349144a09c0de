-- What the parts of a file that are lent stand for, and the definitions' fault that a fault is.
use Rattle.std.specs.Prelude.{ℕ, List, Option, Some, None, map}
use Rattle.cid.specs.CidRef.{bytes_of}
use Rattle.spec.specs.CarReading as reading
use Rattle.car_reader.specs.declared.section.Section.{Section}
use Rattle.car_reader.specs.declared.car.Car.{Car}
use Rattle.car_reader.specs.declared.fault.CarFault.{CarFault}
use Rattle.car_reader.specs.declared.fault.CarFault.TheVariants as errors

abbrev pub section_of : Section → reading.Section
section_of s = record { cid = bytes_of s.cid; block = s.block.now }

abbrev pub sections_of : List Section → List reading.Section
sections_of ss = map section_of ss

abbrev pub car_of : {A : Type 0} → Car A → List ℕ × List reading.Section
car_of c = (bytes_of c.root, sections_of c.sections.items)

-- of want of memory the definitions know nothing
abbrev pub car_fault_of : CarFault → Option reading.CarFault
car_fault_of errors.BadHeader = Some reading.BadHeader
car_fault_of errors.BadLength = Some reading.BadLength
car_fault_of errors.Truncated = Some reading.Truncated
car_fault_of errors.BadCid = Some reading.BadCid
car_fault_of errors.NoMemory = None

use Rattle.std.proofs.Common.{◌≡◌, ◌+◌, ◌-◌, ◌≤◌, length}
use Rattle.spec.specs.CarReading.{sections_within}
use Rattle.car_reader.specs.Views.{sections_of}
use Rattle.car_reader.proofs.Sections.{behind}
use Rattle.car_reader.proofs.car.sections.Given as goal

-- each section so far took a byte or more, and with those to come they are all
abbrev pub invariant-sections : goal.invariant-sections
invariant-sections g l = record {
  room : length l.found.items + length l.rest ≤ length l.bytes;
  read : behind (sections_of l.found.items) (sections_within (length l.bytes - length l.found.items) l.rest)
      ≡ sections_within (length l.bytes) l.bytes;
}

abbrev pub decreases-sections : goal.decreases-sections
decreases-sections g l = length l.rest

use Rattle.std.proofs.Common.{◌≡◌, ◌++◌, drop, map}
use Rattle.std.specs.List.{flat_map}
use Rattle.car_reader.specs.Views.{section_of}
use Rattle.tizulgech.specs.Messages.{section_spelt}
use Rattle.tizulgech.proofs.messages.push_sections.Given as goal

abbrev pub invariant-loop-section : goal.invariant-loop-section
invariant-loop-section l = l.initial.out.items ++ flat_map section_spelt (map section_of l.sections) ≡ l.out.items ++ flat_map section_spelt (map section_of (drop l.section-index l.sections))

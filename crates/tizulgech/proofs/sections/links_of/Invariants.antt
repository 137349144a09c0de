use Rattle.std.proofs.Common.{◌≡◌, ◌++◌}
use Rattle.std.specs.List.{flat_map}
use Rattle.tizulgech.specs.Parting.{links_bytes, row_links}
use Rattle.tizulgech.proofs.sections.links_of.Given as goal

-- the links so far, and then those of the entries that are left
abbrev pub invariant-loop-entry : goal.invariant-loop-entry
invariant-loop-entry l = record {
  can : (goal.iterator-loop-entry).can_next l.entry-iterator;
  ends : (goal.iterator-loop-entry).is_finite l.entry-iterator;
  whole : links_bytes l.view.left l.view.entries ≡ l.bytes.items ++ flat_map row_links l.entry-iterator;
}

use Rattle.std.proofs.Common.{◌≡◌, ◌++◌, take}
use Rattle.difference.specs.Sides.{rows_of, rows_without}
use Rattle.difference.proofs.Noting.{links_of}
use Rattle.difference.proofs.needs.Needs.add.Given as goal

abbrev pub invariant-loop-row : goal.invariant-loop-row
invariant-loop-row g l = record {
  noted : l.self.cids.items ≡ l.initial.self.cids.items
      ++ links_of (rows_without l.shared.keys (rows_of (take l.row-index l.row-items)));
  wanted : l.self.is_wanted ≡ l.initial.self.is_wanted;
}

use Rattle.std.proofs.Common.{◌≡◌, false, take}
use Rattle.difference_laws.specs.Lines.{repeats}
use Rattle.difference.specs.Sides.{HasLinks, rows_of}
use Rattle.difference.proofs.Noting.{links_of}
use Rattle.difference.proofs.line.Line.links.Given as goal

abbrev pub invariant-loop-row : goal.invariant-loop-row
invariant-loop-row g l = record {
  has : HasLinks (links_of (rows_of (take l.row-index l.row-items))) l.links;
  clean : repeats (links_of (rows_of (take l.row-index l.row-items))) ≡ false;
}

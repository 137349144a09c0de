use Rattle.std.proofs.Common.{◌≡◌, [], take}
use Rattle.difference.specs.Sides.{rows_of}
use Rattle.difference.proofs.Noting.{links_of}
use Rattle.difference.proofs.line.Line.has_no_links.Given as goal

abbrev pub invariant-loop-row : goal.invariant-loop-row
invariant-loop-row g l = links_of (rows_of (take l.row-index l.row-items)) ≡ []

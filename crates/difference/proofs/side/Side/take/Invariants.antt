use Rattle.std.proofs.Common.{◌≡◌, ◌++◌}
use Rattle.edit_laws.specs.ShapeEdit.{last_link}
use Rattle.batch_laws.specs.Links.{rows_in_shape}
use Rattle.rows.specs.Entries.{pairs_left}
use Rattle.difference.specs.Sides.{rows_of}
use Rattle.difference.proofs.side.Side.take.Given as goal

abbrev pub invariant-entries : goal.invariant-entries
invariant-entries g l = record {
  rows : rows_of l.self.line.rows.items ≡ rows_of l.initial.self.line.rows.items ++ l.entries.passed;
  whole : rows_in_shape l.initial.entries.rest ≡ l.entries.passed ++ rows_in_shape l.entries.rest;
  last : last_link l.initial.entries.rest ≡ last_link l.entries.rest;
  after : l.self.line.last ≡ l.initial.self.line.last;
  left : l.self.left ≡ l.initial.self.left;
  top : l.self.top ≡ l.initial.self.top;
  read : l.self.read.items ≡ l.initial.self.read.items;
}

abbrev pub decreases-entries : goal.decreases-entries
decreases-entries g l = pairs_left l.entries.rest

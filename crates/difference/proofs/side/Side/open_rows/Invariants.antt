use Rattle.std.proofs.Common.{◌≡◌, ◌+◌, ◌≤◌, [], length}
use Rattle.std.specs.Prelude.{IfSome}
use Rattle.std.specs.Vec.Iter.{into_iter_items, into_iter_len}
use Rattle.spec.specs.NodeFormat.{Shape}
use Rattle.batch_laws.specs.Links.{onto_links}
use Rattle.lookups.specs.Steps.{nodes_given}
use Rattle.difference_laws.specs.Lines.{within, opened}
use Rattle.difference.specs.Sides.{links_among, rows_of, rows_without, shapes_in}
use Rattle.difference.proofs.side.Side.open_rows.Given as goal

abbrev pub invariant-loop-row : goal.invariant-loop-row
invariant-loop-row g l = record {
  opened_so : (r : Shape) → opened (nodes_given (g.S.Source.gives l.initial.src))
      (onto_links (rows_without l.shared.keys (rows_of l.fn.rows.items)) r) (shapes_in l.initial.self.read.items)
      ≡ within (onto_links (rows_of l.self.line.rows.items)) (opened (nodes_given (g.S.Source.gives l.initial.src))
      (onto_links (rows_without l.shared.keys (rows_of (into_iter_items l.row-iterator))) r) (shapes_in l.self.read.items));
  alone : IfSome l.self.top (λ t. into_iter_items l.row-iterator ≡ []);
  many : into_iter_len l.row-iterator ≡ length (into_iter_items l.row-iterator);
  counted : g.S.Source.reads l.src + length l.initial.self.read.items
      ≡ g.S.Source.reads l.initial.src + length l.self.read.items;
  most : g.S.Source.reads l.src + links_among l.shared.keys (rows_of (into_iter_items l.row-iterator))
      ≤ g.S.Source.reads l.initial.src + links_among l.shared.keys (rows_of l.fn.rows.items);
  grown : length l.initial.self.read.items ≤ length l.self.read.items;
  same : g.S.Source.gives l.src ≡ g.S.Source.gives l.initial.src;
  top : l.self.top ≡ l.initial.self.top;
  after : l.self.line.last ≡ l.initial.self.line.last;
  left : l.self.left ≡ l.initial.self.left;
}

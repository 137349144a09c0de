use Rattle.std.proofs.Common.{◌≡◌, [], option_map, ◌≤◌, length}
use Rattle.cid.specs.CidRef.{bytes_of}
use Rattle.node.specs.Search.{gap_before}
use Rattle.node.specs.Views.{row_with}
use Rattle.node.proofs.Finding.{gap_found, row_found}
use Rattle.node.proofs.view.NodeView.seek.Given as goal

abbrev pub invariant-loop-entry : goal.invariant-loop-entry
invariant-loop-entry l = record {
  can : (goal.iterator-loop-entry).can_next l.entry-iterator;
  ends : (goal.iterator-loop-entry).is_finite l.entry-iterator;
  within : l.same ≤ length l.key;
  gap : gap_found l.key l.same (option_map bytes_of l.gap) l.entry-iterator ≡ gap_before l.key l.fn.self.left l.fn.self.entries;
  row : row_found l.key l.same l.entry-iterator ≡ row_with l.key [] l.fn.self.entries;
}

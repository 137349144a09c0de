use Rattle.std.proofs.Common.{◌≡◌, ◌+◌, max}
use Rattle.lookups.specs.Steps.{nodes_given}
use Rattle.difference_laws.specs.Lines.{levels}
use Rattle.difference.specs.Missing.{reached}
use Rattle.difference.specs.Starts.{HasBegun, asked_by, side_in}
use Rattle.difference.proofs.comparing.open_both.Given as goal

abbrev pub invariant-layers : goal.invariant-layers
invariant-layers g l = record {
  same : g.S.Source.gives l.src ≡ g.S.Source.gives l.initial.src;
  old_begun : HasBegun (g.S.Source.gives l.src) l.old_side;
  new_begun : HasBegun (g.S.Source.gives l.src) l.new_side;
  opened_so : levels (nodes_given (g.S.Source.gives l.initial.src)) (max l.initial.old_side.left l.initial.new_side.left)
      (side_in l.initial.old_side) (side_in l.initial.new_side)
      ≡ levels (nodes_given (g.S.Source.gives l.initial.src)) (max l.old_side.left l.new_side.left) (side_in l.old_side)
      (side_in l.new_side);
  reached_so : reached (nodes_given (g.S.Source.gives l.initial.src)) (max l.initial.old_side.left l.initial.new_side.left)
      (side_in l.initial.old_side) (side_in l.initial.new_side)
      ≡ reached (nodes_given (g.S.Source.gives l.initial.src)) (max l.old_side.left l.new_side.left) (side_in l.old_side)
      (side_in l.new_side);
  wanted : l.needs.is_wanted ≡ l.initial.needs.is_wanted;
  counted : g.S.Source.reads l.src + (asked_by l.initial.old_side + asked_by l.initial.new_side)
      ≡ g.S.Source.reads l.initial.src + (asked_by l.old_side + asked_by l.new_side);
}

abbrev pub decreases-layers : goal.decreases-layers
decreases-layers g l = max l.old_side.left l.new_side.left

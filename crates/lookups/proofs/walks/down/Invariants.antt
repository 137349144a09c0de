use Rattle.std.proofs.Common.{◌≡◌, ◌≤◌, ◌+◌, option_map}
use Rattle.edit_laws.specs.Sources.{shown_by, down_from}
use Rattle.lookups.specs.Steps.{asked_from}
use Rattle.lookups.specs.Walks.{stacked}
use Rattle.lookups.proofs.walks.down.Given as goal

abbrev pub invariant-loop-remaining : goal.invariant-loop-remaining
invariant-loop-remaining g l = record {
  same : g.S.Source.gives l.src ≡ g.S.Source.gives l.initial.src;
  stack : asked_from (shown_by (λ c. option_map g.T.Shows.bytes (g.S.Source.gives l.initial.src c))) l.initial.remaining l.from
      l.initial.next ≤ l.initial.left
      → down_from (shown_by (λ c. option_map g.T.Shows.bytes (g.S.Source.gives l.initial.src c))) l.initial.remaining l.from
      l.initial.next (stacked l.initial.stack.items)
      ≡ down_from (shown_by (λ c. option_map g.T.Shows.bytes (g.S.Source.gives l.initial.src c))) l.remaining l.from l.next
      (stacked l.stack.items);
  reads : asked_from (shown_by (λ c. option_map g.T.Shows.bytes (g.S.Source.gives l.initial.src c))) l.initial.remaining l.from
      l.initial.next ≤ l.initial.left
      → g.S.Source.reads l.initial.src
      + asked_from (shown_by (λ c. option_map g.T.Shows.bytes (g.S.Source.gives l.initial.src c))) l.initial.remaining l.from
      l.initial.next
      ≡ g.S.Source.reads l.src
      + asked_from (shown_by (λ c. option_map g.T.Shows.bytes (g.S.Source.gives l.initial.src c))) l.remaining l.from l.next;
  bounded : g.S.Source.reads l.src + l.left ≡ g.S.Source.reads l.initial.src + l.initial.left;
}

abbrev pub decreases-loop-remaining : goal.decreases-loop-remaining
decreases-loop-remaining g l = l.remaining

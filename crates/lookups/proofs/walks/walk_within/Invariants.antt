use Rattle.std.proofs.Common.{◌≡◌, ◌+◌, [], ◌++◌, option_map}
use Rattle.edit_laws.specs.Sources.{shown_by, walk_from}
use Rattle.lookups.specs.Walks.{pairs_given, stacked, asked_walk, IsPlain}
use Rattle.lookups.proofs.walks.walk_within.Given as goal

abbrev pub invariant-loop-remaining : goal.invariant-loop-remaining
invariant-loop-remaining g l = record {
  same : g.S.Source.gives l.src ≡ g.S.Source.gives l.initial.src;
  pairs : IsPlain (shown_by (λ c. option_map g.T.Shows.bytes (g.S.Source.gives l.initial.src c))) l.initial.remaining l.most l.from
      l.initial.link l.initial.left
      → pairs_given l.pairs.items
      ++ walk_from (shown_by (λ c. option_map g.T.Shows.bytes (g.S.Source.gives l.initial.src c))) l.remaining l.most l.from l.link
      (stacked l.stack.items)
      ≡ walk_from (shown_by (λ c. option_map g.T.Shows.bytes (g.S.Source.gives l.initial.src c))) l.initial.remaining l.most l.from
      l.initial.link [];
  reads : IsPlain (shown_by (λ c. option_map g.T.Shows.bytes (g.S.Source.gives l.initial.src c))) l.initial.remaining l.most l.from
      l.initial.link l.initial.left
      → g.S.Source.reads l.initial.src
      + asked_walk (shown_by (λ c. option_map g.T.Shows.bytes (g.S.Source.gives l.initial.src c))) l.initial.remaining l.most l.from
      l.initial.link []
      ≡ g.S.Source.reads l.src
      + asked_walk (shown_by (λ c. option_map g.T.Shows.bytes (g.S.Source.gives l.initial.src c))) l.remaining l.most l.from l.link
      (stacked l.stack.items);
  bounded : g.S.Source.reads l.src + l.left ≡ g.S.Source.reads l.initial.src + l.initial.left;
}

abbrev pub decreases-loop-remaining : goal.decreases-loop-remaining
decreases-loop-remaining g l = l.remaining

use Rattle.std.proofs.Common.{◌≡◌, ◌+◌, ◌≤◌, length}
use Rattle.lookups.specs.Steps.{nodes_given}
use Rattle.batch_laws.specs.Links.{LinkEdge, Step}
use Rattle.edit.specs.States.{log_in, shapes_coming, IsOnTheWay, IsCounted}
use Rattle.edit.proofs.edge.Edge.descend.Given as goal

abbrev pub invariant-loop-next : goal.invariant-loop-next
invariant-loop-next g l = record {
  same : g.S.Source.gives l.src ≡ g.S.Source.gives l.initial.src;
  way : (all : Step LinkEdge) → IsOnTheWay g.D.Digest.digest_of (nodes_given (g.S.Source.gives l.initial.src)) all
      l.depth l.initial.left l.initial.next (shapes_coming l.initial.coming.items) l.initial.self.levels.items
      l.initial.self.rest (log_in l.initial.self)
      → IsOnTheWay g.D.Digest.digest_of (nodes_given (g.S.Source.gives l.initial.src)) all l.depth l.left l.next
      (shapes_coming l.coming.items) l.self.levels.items l.self.rest (log_in l.self);
  within : l.depth + length l.coming.items ≤ length l.self.levels.items;
  counted : IsCounted (g.S.Source.reads l.initial.src, l.initial.self.left) (g.S.Source.reads l.src, l.self.left)
      (log_in l.initial.self) (log_in l.self);
}

abbrev pub decreases-loop-next : goal.decreases-loop-next
decreases-loop-next g l = l.left

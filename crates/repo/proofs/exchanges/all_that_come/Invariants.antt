use Rattle.std.proofs.Common.{◌≡◌, ◌++◌, map}
use Rattle.std.specs.Arc.{arc_value}
use Rattle.repo.proofs.exchanges.all_that_come.Given as goal

abbrev pub invariant-loop-record : goal.invariant-loop-record
invariant-loop-record g l =
    map arc_value l.all.items ++ map arc_value l.record-iterator.rest.items ≡ map arc_value l.fn.nodes.items ++ map arc_value l.fn.records.items

use Rattle.std.proofs.Common.{◌≡◌, ◌++◌, take}
use Rattle.batch_laws.specs.Uses.{present_values}
use Rattle.repo.proofs.exchanges.all_that_go.Given as goal

abbrev pub invariant-loop-record : goal.invariant-loop-record
invariant-loop-record g l = l.all.items ≡ l.fn.nodes.items ++ present_values (take l.record-index l.records)

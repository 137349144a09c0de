use Rattle.std.proofs.Common.{◌≡◌, ◌++◌, map}
use Rattle.std.specs.Arc.{arc_value}
use Rattle.repo.proofs.records.shared.Given as goal

abbrev pub invariant-loop-block : goal.invariant-loop-block
invariant-loop-block g l = map arc_value l.shared.items ++ l.block-iterator.rest.items ≡ l.fn.blocks.items

use Rattle.std.proofs.Common.{◌≡◌, map, take}
use Rattle.block.specs.Bytes.{record_in}
use Rattle.block.proofs.block.records_in.Given as goal

abbrev pub invariant-loop-write : goal.invariant-loop-write
invariant-loop-write g l = map (λ bytes. bytes.now) l.records.items ≡ map record_in (take l.write-index l.writes)

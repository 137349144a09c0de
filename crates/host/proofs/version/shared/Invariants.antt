use Rattle.std.proofs.Common.{◌≡◌, ◌≤◌, length, take}
use Rattle.std.specs.Prelude.{vec_capacity, vec_len}
use Rattle.batches.specs.Values.{shared_writes}
use Rattle.host.proofs.version.shared.Given as goal

abbrev pub invariant-loop-write : goal.invariant-loop-write
invariant-loop-write g l = record {
  copied : shared_writes l.writes.items ≡ shared_writes (take l.write-index l.accepted);
  len : vec_len l.writes ≡ l.write-index;
  room : length l.accepted ≤ vec_capacity l.writes;
}

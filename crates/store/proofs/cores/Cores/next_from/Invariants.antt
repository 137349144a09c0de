use Rattle.std.proofs.Common.{◌*◌, ◌+◌, ◌≤◌, ◌<◌}
use Rattle.store.proofs.Bits.{IsBare}
use Rattle.store.proofs.cores.Cores.next_from.Given as goal

abbrev pub invariant-loop-place : goal.invariant-loop-place
invariant-loop-place l = record {
  small : l.from < 64;
  ahead : l.fn.core ≤ 64 * l.place + l.from;
  bare : IsBare l.words l.fn.core (64 * l.place + l.from);
}

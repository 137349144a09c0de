use Rattle.std.proofs.Common.{◌≡◌, length}
use Rattle.export.specs.Outs.{Leaves}
use Rattle.export.proofs.whole.write_whole.Given as goal

abbrev pub invariant-loop-rest : goal.invariant-loop-rest
invariant-loop-rest g l = record {
  leaves : Leaves (g.W.Out.taken l.initial.out) (g.W.Out.taken l.out) l.bytes l.rest;
  failures : g.W.Out.failures l.out ≡ g.W.Out.failures l.initial.out;
}

abbrev pub decreases-loop-rest : goal.decreases-loop-rest
decreases-loop-rest g l = length l.rest

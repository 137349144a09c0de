use Rattle.console.proofs.Leaving.{Leaves}
use Rattle.console.proofs.writing.write_whole.Given as goal

abbrev pub invariant-tries : goal.invariant-tries
invariant-tries g l = Leaves (g.W.Write.contents l.initial.out) (g.W.Write.contents l.out) l.bytes l.rest

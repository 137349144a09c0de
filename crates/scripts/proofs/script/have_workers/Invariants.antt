use Rattle.std.proofs.Common.{◌<◌, ℕ, get_or}
use Rattle.scripts.specs.declared.script.Line.{Line}
use Rattle.scripts.proofs.script.have_workers.Given as goal

abbrev pub invariant-loop-line : goal.invariant-loop-line
invariant-loop-line l = (k : ℕ) (d : Line) → k < l.line-index → (get_or l.lines k d).worker < l.workers

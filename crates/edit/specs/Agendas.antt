-- The tasks of the code as the laws see them.
use Rattle.std.specs.Prelude.{List, map}
use Rattle.cid.specs.declared.digest.Digest.{Ghosts}
use Rattle.edit.specs.Agenda.{Later, Gap, Task, ToPair, ToGap}
use Rattle.edit.specs.declared.walk.NextPair.{NextPair}
use Rattle.edit.specs.declared.walk.NextGap.{NextGap}
use Rattle.edit.specs.declared.walk.Task as code
use Rattle.edit.specs.declared.walk.Task.TheVariants as variants

abbrev pub later_of : {D A : Type 0} {g : Ghosts D} → NextPair D A g → Later
later_of p = record {
  layer = p.layer;
  depth = p.depth;
  pair = (p.rest.before, p.value);
  at = p.at;
  rest = p.rest.rest;
  changes = p.changes.now;
}

abbrev pub gap_of : {D : Type 0} {g : Ghosts D} → NextGap D g → Gap
gap_of g = record { layer = g.layer; depth = g.depth; link = g.link; changes = g.changes.now }

abbrev pub task_of : {D A : Type 0} {g : Ghosts D} → code.Task D A g → Task
task_of (variants.Pair p) = ToPair (later_of p)
task_of (variants.Gap g) = ToGap (gap_of g)

abbrev pub agenda_of : {D A : Type 0} {g : Ghosts D} → List (code.Task D A g) → List Task
agenda_of ts = map task_of ts

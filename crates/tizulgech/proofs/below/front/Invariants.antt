use Rattle.std.proofs.Common.{◌≡◌, ◌+◌, drop}
use Rattle.tizulgech.specs.Below.{front_of}
use Rattle.tizulgech.proofs.below.front.Given as goal

abbrev pub invariant-loop-change : goal.invariant-loop-change
invariant-loop-change l = record {
  count : l.count ≡ l.change-index;
  whole : front_of l.goes l.key l.changes ≡ l.count + front_of l.goes l.key (drop l.count l.changes);
}

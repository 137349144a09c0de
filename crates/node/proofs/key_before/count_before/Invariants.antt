use Rattle.std.proofs.Common.{◌≡◌, ◌≤◌, [], length, take}
use Rattle.node.specs.KeyParts.{key_from}
use Rattle.node.proofs.key_before.count_before.Given as goal

abbrev pub invariant-loop-count : goal.invariant-loop-count
invariant-loop-count l = record {
  fits : l.count ≤ length l.parts;
  same : take l.place (key_from [] (take l.count l.parts)) ≡ take l.place (key_from [] l.parts);
  within : l.place ≤ length (key_from [] (take l.count l.parts));
}

abbrev pub decreases-loop-count : goal.decreases-loop-count
decreases-loop-count l = l.count

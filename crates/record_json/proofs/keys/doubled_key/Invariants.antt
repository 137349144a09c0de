use Rattle.std.proofs.Common.{◌≡◌, ◌-◌, map, drop}
use Rattle.record_json.specs.KeyOrder.{doubled_key}
use Rattle.record_json.proofs.keys.doubled_key.Given as goal

abbrev pub invariant-loop-i : goal.invariant-loop-i
invariant-loop-i g l = doubled_key (map (λ m. m.now.0.now) l.members.items) ≡ doubled_key (drop (l.i - 1) (map (λ m. m.now.0.now) l.members.items))

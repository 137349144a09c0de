use Rattle.std.proofs.Common.{◌≡◌, map, take}
use Rattle.record_json.proofs.keys.in_order.Given as goal

abbrev pub invariant-loop-member : goal.invariant-loop-member
invariant-loop-member g l = map (λ m. m.now) l.sorted.items ≡ take l.member-index l.members.items

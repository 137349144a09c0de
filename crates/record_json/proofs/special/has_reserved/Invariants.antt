use Rattle.std.proofs.Common.{◌≡◌, drop}
use Rattle.json.specs.Value.{members_view}
use Rattle.record_json.specs.Reading.{has_reserved}
use Rattle.record_json.proofs.special.has_reserved.Given as goal

abbrev pub invariant-loop-member : goal.invariant-loop-member
invariant-loop-member g l = has_reserved (members_view l.members.items) ≡ has_reserved (members_view (drop l.member-index l.members.items))

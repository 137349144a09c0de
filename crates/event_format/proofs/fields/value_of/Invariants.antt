use Rattle.std.proofs.Common.{◌≡◌, drop}
use Rattle.dagcbor.specs.View.{view_fields}
use Rattle.event_laws.specs.Fields.{field}
use Rattle.event_format.proofs.fields.value_of.Given as goal

abbrev pub invariant-loop-pair : goal.invariant-loop-pair
invariant-loop-pair g l = field l.name (view_fields l.pairs.items) ≡ field l.name (view_fields (drop l.pair-index l.pairs.items))

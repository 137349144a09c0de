use Rattle.std.proofs.Common.{◌≡◌, ◌++◌, drop}
use Rattle.std.specs.List.{flat_map}
use Rattle.event_commands.specs.Texts.{op_line}
use Rattle.event_commands.proofs.telling.push_each.Given as goal

abbrev pub invariant-loop-op : goal.invariant-loop-op
invariant-loop-op l =
    l.text.items ++ flat_map (op_line l.places) (drop l.op-index l.ops)
    ≡ l.initial.text.items ++ flat_map (op_line l.places) l.ops

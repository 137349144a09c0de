use Rattle.std.proofs.Common.{◌≡◌, map, drop}
use Rattle.batches.specs.Values.{writes_of}
use Rattle.run_command.specs.Script.{writes_of_parts}
use Rattle.run_command.proofs.Parts.{onto}
use Rattle.run_command.proofs.script.writes.writes_of.Given as goal

abbrev pub invariant-loop-part : goal.invariant-loop-part
invariant-loop-part l =
    writes_of_parts (map (λ g. map (λ t. t.now) g.now) l.part-items)
    ≡ onto (writes_of l.writes.items) (writes_of_parts (map (λ g. map (λ t. t.now) g.now) (drop l.part-index l.part-items)))

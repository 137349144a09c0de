use Rattle.std.proofs.Common.{drop}
use Rattle.std.specs.List.{flat_map}
use Rattle.console.proofs.Leaving.{Leaves}
use Rattle.export_commands.specs.Views.{line_of}
use Rattle.export_commands.proofs.records.write_records.Given as goal

abbrev pub invariant-loop-entry : goal.invariant-loop-entry
invariant-loop-entry g l =
    Leaves (g.W.Write.contents l.initial.out) (g.W.Write.contents l.out) (flat_map (line_of l.values) l.records)
    (flat_map (line_of l.values) (drop l.entry-index l.records))

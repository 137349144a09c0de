use Rattle.std.proofs.Common.{◌+◌, drop}
use Rattle.std.specs.List.{flat_map}
use Rattle.console.proofs.Leaving.{leaves-less, stops}
use Rattle.export_commands.specs.Views.{line_of}
use Rattle.export_commands.proofs.Writing.{next_line}
use Rattle.export_commands.proofs.records.write_records.Goals as goal

pub returns-in_err-write_record : goal.returns-in_err-write_record
returns-in_err-write_record g c =
    let o = g.W.Write.contents c.args.out.now in
    let o1 = g.W.Write.contents c.loop-entry.out in
    let o2 = g.W.Write.contents c.write_record.new.out in
    let line = line_of {A = g.row.A.Denot} c.args.values in
    let all = c.args.records.now in
    let i = c.loop-entry.entry-index in
    stops o o1 o2 (flat_map line all) (flat_map line (drop i all)) (line c.entry-item.result) (flat_map line (drop (i + 1) all)) c.from_residual.result
    c.loop-entry.invariant (next_line line all i c.entry-item.result c.loop-entry-test.true c.entry-item.is)
    c.from_residual.ensures.0 c.in_err-write_record.ensures

pub loop-entry-preserved : goal.loop-entry-preserved
loop-entry-preserved g c =
    let o = g.W.Write.contents c.args.out.now in
    let o1 = g.W.Write.contents c.loop-entry.out in
    let o2 = g.W.Write.contents c.write_record.new.out in
    let line = line_of {A = g.row.A.Denot} c.args.values in
    let all = c.args.records.now in
    let i = c.loop-entry.entry-index in
    leaves-less o o1 o2 (flat_map line all) (flat_map line (drop i all)) (line c.entry-item.result) (flat_map line (drop (i + 1) all))
    c.loop-entry.invariant (next_line line all i c.entry-item.result c.loop-entry-test.true c.entry-item.is)
    c.in_ok-write_record.ensures

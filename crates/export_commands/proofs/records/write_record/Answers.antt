use Rattle.std.proofs.Common.{◌++◌, subst}
use Rattle.console.specs.Written.{Writes}
use Rattle.export_commands.specs.Texts.{ended, spaced}
use Rattle.export_commands.specs.Views.{value_of}
use Rattle.export_commands.proofs.Writing.{writes-stopped, writes-then}
use Rattle.export_commands.proofs.records.write_record.Goals as goal

pub returns-in_err-write_spaced : goal.returns-in_err-write_spaced
returns-in_err-write_spaced g c =
    let o = g.W.Write.contents c.args.out.now in
    let o1 = g.W.Write.contents c.write_spaced.new.out in
    let left = ended (value_of c.args.values c.args.entry.now) in
    subst (λ key. Writes o o1 c.from_residual.result (spaced key ++ left)) c.deref.ensures.value
    (writes-stopped o o1 (spaced c.deref.result.now) left c.from_residual.result c.in_err-write_spaced.ensures c.from_residual.ensures.0)

pub returns : goal.returns
returns g c =
    let o = g.W.Write.contents c.args.out.now in
    let o1 = g.W.Write.contents c.write_spaced.new.out in
    let o2 = g.W.Write.contents c.write_value.new.out in
    let left = ended (value_of c.args.values c.args.entry.now) in
    subst (λ key. Writes o o2 c.write_value.result (spaced key ++ left)) c.deref.ensures.value
    (writes-then o o1 o2 (spaced c.deref.result.now) left c.write_value.result c.in_ok-write_spaced.ensures c.write_value.ensures)

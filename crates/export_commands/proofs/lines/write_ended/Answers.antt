use Rattle.std.proofs.Common.{[], ◌∷◌}
use Rattle.export_commands.proofs.Writing.{writes-stopped, writes-then}
use Rattle.export_commands.proofs.lines.write_ended.Goals as goal

pub returns-in_err-write_whole : goal.returns-in_err-write_whole
returns-in_err-write_whole g c =
    writes-stopped (g.W.Write.contents c.args.out.now) (g.W.Write.contents c.write_whole.new.out) c.args.word.now (10 ∷ []) c.from_residual.result
    c.in_err-write_whole.ensures c.from_residual.ensures.0

pub returns : goal.returns
returns g c =
    writes-then (g.W.Write.contents c.args.out.now) (g.W.Write.contents c.write_whole.new.out) (g.W.Write.contents c.write_whole-2.new.out)
    c.args.word.now (10 ∷ []) c.write_whole-2.result c.in_ok-write_whole.ensures c.write_whole-2.ensures

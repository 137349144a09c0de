use Rattle.std.proofs.Common.{[], ◌∷◌}
use Rattle.hex.specs.Hex.{encode_lower}
use Rattle.export_commands.proofs.Writing.{writes-stopped, writes-then}
use Rattle.export_commands.proofs.lines.write_hex_ended.Goals as goal

pub returns-in_err-write_hex : goal.returns-in_err-write_hex
returns-in_err-write_hex g c =
    writes-stopped (g.W.Write.contents c.args.out.now) (g.W.Write.contents c.write_hex.new.out) (encode_lower c.args.bytes.now) (10 ∷ []) c.from_residual.result
    c.in_err-write_hex.ensures c.from_residual.ensures.0

pub returns : goal.returns
returns g c =
    writes-then (g.W.Write.contents c.args.out.now) (g.W.Write.contents c.write_hex.new.out) (g.W.Write.contents c.write_whole.new.out)
    (encode_lower c.args.bytes.now) (10 ∷ []) c.write_whole.result c.in_ok-write_hex.ensures c.write_whole.ensures

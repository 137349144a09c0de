use Rattle.hex.specs.Hex.{encode_lower}
use Rattle.export_commands.specs.Texts.{ended}
use Rattle.export_commands.proofs.Writing.{writes-stopped, writes-then}
use Rattle.export_commands.proofs.telling.write_signed.Goals as goal

pub returns-in_err-write_hex_ended : goal.returns-in_err-write_hex_ended
returns-in_err-write_hex_ended g c =
    writes-stopped (g.W.Write.contents c.args.out.now) (g.W.Write.contents c.write_hex_ended.new.out) (ended (encode_lower c.args.signed.now))
    (ended (encode_lower c.args.signature.now)) c.from_residual.result c.in_err-write_hex_ended.ensures c.from_residual.ensures.0

pub returns : goal.returns
returns g c =
    writes-then (g.W.Write.contents c.args.out.now) (g.W.Write.contents c.write_hex_ended.new.out) (g.W.Write.contents c.write_hex_ended-2.new.out)
    (ended (encode_lower c.args.signed.now)) (ended (encode_lower c.args.signature.now)) c.write_hex_ended-2.result
    c.in_ok-write_hex_ended.ensures c.write_hex_ended-2.ensures

use Rattle.std.proofs.Common.{sym, ◌∙◌}
use Rattle.hex.specs.Hex.{encode_lower}
use Rattle.console.proofs.Leaving.{fails, leaves-less, leaves-beginning, leaves-nothing, encode_lower-parts, encode_lower-nothing}
use Rattle.console.proofs.writing.write_hex.Goals as goal

pub returns-in_err-write_piece : goal.returns-in_err-write_piece
returns-in_err-write_piece g c =
    let before = g.W.Write.contents c.args.out.now in
    let now = g.W.Write.contents c.pieces.out in
    let after = g.W.Write.contents c.write_piece.new.out in
    let parts = encode_lower-parts c.min.result c.pieces.rest.now c.split_at.result.0.now c.split_at.result.1.now c.split_at.ensures.front c.split_at.ensures.back in
    fails before after c.from_residual.result (encode_lower c.args.bytes.now) c.from_residual.ensures.0
    (leaves-beginning before now after (encode_lower c.args.bytes.now) (encode_lower c.pieces.rest.now) (encode_lower c.split_at.result.0.now) (encode_lower c.split_at.result.1.now)
    c.pieces.invariant parts c.in_err-write_piece.ensures)

pub pieces-preserved : goal.pieces-preserved
pieces-preserved g c =
    let before = g.W.Write.contents c.args.out.now in
    let now = g.W.Write.contents c.pieces.out in
    let after = g.W.Write.contents c.write_piece.new.out in
    let parts = encode_lower-parts c.min.result c.pieces.rest.now c.split_at.result.0.now c.split_at.result.1.now c.split_at.ensures.front c.split_at.ensures.back in
    leaves-less before now after (encode_lower c.args.bytes.now) (encode_lower c.pieces.rest.now) (encode_lower c.split_at.result.0.now) (encode_lower c.split_at.result.1.now)
    c.pieces.invariant parts c.in_ok-write_piece.ensures

pub returns : goal.returns
returns g c =
    leaves-nothing (g.W.Write.contents c.args.out.now) (g.W.Write.contents c.pieces.out) (encode_lower c.args.bytes.now) (encode_lower c.pieces.rest.now) c.pieces.invariant
    (encode_lower-nothing c.pieces.rest.now (sym c.is_empty.ensures ∙ c.pieces-test.false))

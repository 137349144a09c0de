use Rattle.std.proofs.Common.{◌++◌, ap, sym, ◌∙◌}
use Rattle.export.proofs.Leaving.{takes-same}
use Rattle.export.proofs.Spelled.{before_root, after_root, own-size, header-parts}
use Rattle.export.proofs.sections.write_header.Goals as goal

pub returns-in_err-write_three-clause-taken : goal.returns-in_err-write_three-clause-taken
returns-in_err-write_three-clause-taken g c =
    let root = c.args.root.now in
    let parts = header-parts root (own-size root c.as_bytes-cid.ensures.own) in
    takes-same (g.W.Out.taken c.args.out.now) (g.W.Out.taken c.write_three.new.out) (before_root ++ (root ++ after_root)) _ c.from_residual.result
    c.from_residual.ensures.0 (sym parts) (rw c.as_bytes-cid.ensures.bytes at c.in_err-write_three.ensures.taken)

pub returns-clause-taken : goal.returns-clause-taken
returns-clause-taken g c =
    let root = c.args.root.now in
    let parts = header-parts root (own-size root c.as_bytes-cid.ensures.own) in
    (rw c.as_bytes-cid.ensures.bytes at c.in_ok-write_three.ensures.taken) ∙ ap (λ t. g.W.Out.taken c.args.out.now ++ t) (sym parts)

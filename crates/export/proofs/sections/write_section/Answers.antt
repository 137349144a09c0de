use Rattle.std.proofs.Common.{◌++◌, take, ap, sym, ◌∙◌}
use Rattle.spec.specs.Varint.{varint}
use Rattle.spec.specs.Cid.{is_own_cid}
use Rattle.export.proofs.Leaving.{takes-same}
use Rattle.export.proofs.Spelled.{own-size, section-parts}
use Rattle.export.proofs.sections.write_section.Goals as goal

pub returns-in_err-write_three-clause-taken : goal.returns-in_err-write_three-clause-taken
returns-in_err-write_three-clause-taken g c =
    let number = take c.varint-count.result.1 c.varint-count.result.0 in
    let own = own-size c.as_bytes-identifier.result.now (ap is_own_cid c.as_bytes-identifier.ensures.bytes ∙ c.as_bytes-identifier.ensures.own) in
    let parts = section-parts g.D.Digest.digest_of c.args.block.now c.bytes-bytes.result.now c.as_bytes-identifier.result.now number
    (c.as_bytes-identifier.ensures.bytes ∙ c.cid-cid.ensures) own c.bytes-bytes.ensures (c.varint-count.ensures.bytes ∙ ap varint c.size_behind-size.ensures) in
    takes-same (g.W.Out.taken c.args.out.now) (g.W.Out.taken c.write_three.new.out) (number ++ (c.as_bytes-identifier.result.now ++ c.bytes-bytes.result.now)) _
    c.from_residual.result c.from_residual.ensures.0 (sym parts) c.in_err-write_three.ensures.taken

pub returns-clause-taken : goal.returns-clause-taken
returns-clause-taken g c =
    let number = take c.varint-count.result.1 c.varint-count.result.0 in
    let own = own-size c.as_bytes-identifier.result.now (ap is_own_cid c.as_bytes-identifier.ensures.bytes ∙ c.as_bytes-identifier.ensures.own) in
    let parts = section-parts g.D.Digest.digest_of c.args.block.now c.bytes-bytes.result.now c.as_bytes-identifier.result.now number
    (c.as_bytes-identifier.ensures.bytes ∙ c.cid-cid.ensures) own c.bytes-bytes.ensures (c.varint-count.ensures.bytes ∙ ap varint c.size_behind-size.ensures) in
    c.in_ok-write_three.ensures.taken ∙ ap (λ t. g.W.Out.taken c.args.out.now ++ t) (sym parts)

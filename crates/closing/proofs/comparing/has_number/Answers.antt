use Rattle.std.proofs.Common.{◌∙◌}
use Rattle.closing.proofs.Entries.{have_at, have_none}
use Rattle.closing.proofs.comparing.has_number.Goals as goal

pub returns-in-Some : goal.returns-in-Some
returns-in-Some g c =
    let h = c.in-Some.ensures.lookup in
    c.has_block.ensures
    ∙ have_at g.D.Digest.digest_of g.row.B c.args.cores.now c.args.cid.now c.args.number c.in-Some.core.now c.requires h.3.0 h.1

pub returns-in-None : goal.returns-in-None
returns-in-None g c =
    let h = c.in-None.ensures.lookup in
    have_none g.D.Digest.digest_of g.row.B c.args.cores.now c.args.cid.now c.args.number c.requires h.3

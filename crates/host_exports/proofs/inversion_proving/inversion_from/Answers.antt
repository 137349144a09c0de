use Rattle.std.proofs.Common.{sym, subst, ◌∙◌}
use Rattle.spec.specs.States.{state_root}
use Rattle.host_exports.specs.ChangeProofs.{IsNoInversionIn}
use Rattle.host_exports.proofs.ChangeProving.{core-fault, other-root, own-root}
use Rattle.host_exports.proofs.inversion_proving.inversion_from.Goals as goal

pub returns-then-ne-clause-fault : goal.returns-then-ne-clause-fault
returns-then-ne-clause-fault g c = other-root c.root.result c.args.after (state_root g.D.Digest.digest_of g.row.B c.args.core.now) (sym c.ne.ensures ∙ c.if-ne.true) c.root.ensures.value

pub returns-in-Ok-clause-root : goal.returns-in-Ok-clause-root
returns-in-Ok-clause-root g c = own-root c.root.result c.args.after (state_root g.D.Digest.digest_of g.row.B c.args.core.now) (sym c.ne.ensures ∙ c.if-ne.false) c.root.ensures.value

pub returns-in-Err-clause-fault : goal.returns-in-Err-clause-fault
returns-in-Err-clause-fault g c =
    let is = own-root c.root.result c.args.after (state_root g.D.Digest.digest_of g.row.B c.args.core.now) (sym c.ne.ensures ∙ c.if-ne.false) c.root.ensures.value in
    subst (IsNoInversionIn g.D.Digest.digest_of g.row.B c.args.core.now c.args.after c.args.changes.now) (sym c.from.ensures)
    (core-fault g.D.Digest.digest_of g.row.B c.args.after c.args.core.now c.args.changes.now c.in-Err.fault is c.in-Err.ensures.fault)

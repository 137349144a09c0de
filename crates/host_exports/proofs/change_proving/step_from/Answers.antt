use Rattle.std.proofs.Common.{sym, ◌∙◌}
use Rattle.spec.specs.States.{state_root}
use Rattle.host_exports.proofs.ChangeProving.{other-root, own-root}
use Rattle.host_exports.proofs.change_proving.step_from.Goals as goal

pub returns-then-ne-clause-fault : goal.returns-then-ne-clause-fault
returns-then-ne-clause-fault g c = other-root c.root.result c.args.before (state_root g.D.Digest.digest_of g.row.B c.args.core.now) (sym c.ne.ensures ∙ c.if-ne.true) c.root.ensures.value

pub returns-in-Ok-clause-root : goal.returns-in-Ok-clause-root
returns-in-Ok-clause-root g c = own-root c.root.result c.args.before (state_root g.D.Digest.digest_of g.row.B c.args.core.now) (sym c.ne.ensures ∙ c.if-ne.false) c.root.ensures.value

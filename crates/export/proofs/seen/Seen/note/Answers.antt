use Rattle.std.proofs.Common.{not, sym, ap}
use Rattle.export.proofs.Singles.{not-noted}
use Rattle.export.proofs.seen.Seen.note.Goals as goal

pub returns-then-not-may_repeat-clause-new : goal.returns-then-not-may_repeat-clause-new
returns-then-not-may_repeat-clause-new g c = sym (ap not (c.requires c.if-not-may_repeat.true))

pub returns-then-not-may_repeat-clause-noted : goal.returns-then-not-may_repeat-clause-noted
returns-then-not-may_repeat-clause-noted g c = not-noted c.args.may_repeat c.args.self.now c.args.cid c.if-not-may_repeat.true

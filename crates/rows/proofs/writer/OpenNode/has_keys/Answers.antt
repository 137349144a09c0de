use Rattle.std.proofs.Common.{None}
use Rattle.rows.proofs.Keys.{keys-so-far}
use Rattle.rows.proofs.writer.OpenNode.has_keys.Goals as goal

pub returns : goal.returns
returns g c = keys-so-far c.self.inside.written None c.args.self.now c.self.invariant.keys c.self.view_is

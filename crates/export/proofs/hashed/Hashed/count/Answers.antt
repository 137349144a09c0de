use Rattle.std.proofs.Common.{◌∙◌, sym, ap, length}
use Rattle.export.proofs.hashed.Hashed.count.Goals as goal

pub returns : goal.returns
returns c = sym c.self.invariant.1 ∙ ap length c.self.view_is

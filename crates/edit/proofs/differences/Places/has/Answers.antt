use Rattle.std.proofs.Common.{◌∙◌}
use Rattle.edit.proofs.Placed.{is-there, has-first}
use Rattle.edit.proofs.differences.Places.has.Goals as goal

pub returns : goal.returns
returns g c = λ cids has.
    c.is_some.ensures ∙ is-there c.args.cid.now cids c.find.result (c.find.ensures ∙ has-first c.args.self.now cids has c.args.cid.now)

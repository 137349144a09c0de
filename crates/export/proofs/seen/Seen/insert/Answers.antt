use Rattle.std.proofs.Common.{not, ap, ◌∙◌}
use Rattle.export.specs.Once.{has}
use Rattle.export.proofs.FirstOnes.{has-more}
use Rattle.export.proofs.seen.Seen.insert.Goals as goal

pub returns-clause-new : goal.returns-clause-new
returns-clause-new g c = c.in_ok-insert.ensures.added ∙ ap (λ s. not (has s c.args.cid)) c.self.view_is

pub returns-clause-more : goal.returns-clause-more
returns-clause-more g c = rw (← c.self.view_is) (has-more c.self.inside.cids.keys c.insert.new.self.keys c.args.cid c.in_ok-insert.ensures.updates.0)

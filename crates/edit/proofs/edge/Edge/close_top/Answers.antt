use Rattle.std.proofs.lemmas.Result.{IfErr-weaker}
use Rattle.edit.specs.States.{log_in}
use Rattle.edit.proofs.Ending.{top-refused}
use Rattle.edit.proofs.edge.Edge.close_top.Goals as goal

pub returns-clause-fault : goal.returns-clause-fault
returns-clause-fault g c above rows cut =
    IfErr-weaker c.close_top.result _ _
    (λ f r. top-refused g.D.Digest.digest_of c.args.depth c.args.self.now.levels.items c.close_below.new.self.levels.items above
    c.pop.new.self.items rows c.in-Some.level c.args.self.now.rest c.in_ok-link.link (log_in c.args.self.now)
    (log_in c.close_below.new.self) f c.in_ok-link.ensures.left c.in-Some.ensures.items c.in_ok-link.ensures.closed r cut)
    c.close_top.ensures.fault

use Rattle.std.proofs.Common.{arith}
use Rattle.export.proofs.Walked.{link-none, link-some, turned-size}
use Rattle.export.proofs.walk.Walk.take_link.Goals as goal

pub returns-then-len-self-clause-link : goal.returns-then-len-self-clause-link
returns-then-len-self-clause-link g c =
    rw (← c.self.view_is) (link-none c.self.inside.stack.items c.self.inside.link c.self.inside.most (omega arith))

pub returns-clause-link : goal.returns-clause-link
returns-clause-link g c =
    rw (← c.self.view_is) (link-some c.self.inside.stack.items c.self.inside.link c.self.inside.most (omega arith))

pub returns-then-len-self-clause-within : goal.returns-then-len-self-clause-within
returns-then-len-self-clause-within g c = rw (← c.self.view_is, turned-size c.self.inside.stack.items) (omega arith)

pub returns-clause-within : goal.returns-clause-within
returns-clause-within g c = rw (← c.self.view_is, turned-size c.self.inside.stack.items) (omega arith)

use Rattle.std.proofs.Common.{◌≡◌, arith, sym, subst, IfOk}
use Rattle.edit.specs.States.{log_in, shapes_in}
use Rattle.edit.proofs.Closing.{closing-from}
use Rattle.std.proofs.lemmas.Result.{err_from_is_err_and, IfErr-weaker}
use Rattle.edit.proofs.Refusing.{close-refused, close-further}
use Rattle.edit.proofs.edge.Edge.+close_below.Goals as goal

pub returns-clause-closed : goal.returns-clause-closed
returns-clause-closed g t c =
    let e = closing-from g.D.Digest.digest_of c.args.depth c.args.self.now.levels.items c.pop.new.self.items c.in-Some.level
    c.args.self.now.rest c.in_ok-self.field-0 (log_in c.args.self.now)
    (record { read = shapes_in c.args.self.now.read.items; made = shapes_in c.close.new.made.items }) c.in-Some.ensures.items
    (omega (arith, c.if-len-depth.false, c.len.ensures)) (c.in_ok-self.ensures.closed (shapes_in c.args.self.now.read.items)) in
    subst (λ p. IfOk c.close_below.result (λ link. p ≡ (link, log_in c.close_below.new.self))) (sym e)
    c.close_below.ensures.closed

pub returns-in_err-self-clause-fault : goal.returns-in_err-self-clause-fault
returns-in_err-self-clause-fault g t c =
    let p = err_from_is_err_and c.from_residual.result c.from_residual.ensures.1 in
    rw (p.1, p.2)
    (close-refused g.D.Digest.digest_of c.args.depth c.args.self.now.levels.items c.pop.new.self.items c.in-Some.level
    c.args.self.now.rest (log_in c.args.self.now) c.in_err-self.field-0.0 c.in-Some.ensures.items
    (omega (arith, c.if-len-depth.false, c.len.ensures)) c.in_err-self.ensures.fault)

pub returns-clause-fault : goal.returns-clause-fault
returns-clause-fault g t c =
    IfErr-weaker c.close_below.result _ _
    (λ f r. close-further g.D.Digest.digest_of c.args.depth c.args.self.now.levels.items c.pop.new.self.items c.in-Some.level
    c.args.self.now.rest c.in_ok-self.field-0 (log_in c.args.self.now)
    (record { read = shapes_in c.args.self.now.read.items; made = shapes_in c.close.new.made.items }) f c.in-Some.ensures.items
    (omega (arith, c.if-len-depth.false, c.len.ensures)) (c.in_ok-self.ensures.closed (shapes_in c.args.self.now.read.items)) r)
    c.close_below.ensures.fault

use Rattle.std.proofs.lemmas.Result.{err_from_is_err_and}
use Rattle.rows.specs.Drafts.{pair_of}
use Rattle.edit.specs.States.{log_in}
use Rattle.edit.proofs.Refusing.{row-refused}
use Rattle.edit.proofs.edge.Edge.add_pair.Goals as goal

pub returns-in_err-pair-clause-fault : goal.returns-in_err-pair-clause-fault
returns-in_err-pair-clause-fault g c above rows cut =
    let p = err_from_is_err_and c.from_residual-in_err-pair.result c.from_residual-in_err-pair.ensures.1 in
    rw (p.1, p.2)
    (row-refused g.D.Digest.digest_of c.args.depth (pair_of c.args.key.now c.args.value) c.args.self.now.levels.items
    c.close_below.new.self.levels.items above c.pop.new.self.items rows c.in-Some.level c.args.self.now.rest c.in_ok-link.link
    (log_in c.args.self.now) (log_in c.close_below.new.self) c.in_err-pair.field-0.0 c.in_ok-link.ensures.left
    c.in-Some.ensures.items c.in_ok-link.ensures.closed c.in_err-pair.ensures.fault cut)

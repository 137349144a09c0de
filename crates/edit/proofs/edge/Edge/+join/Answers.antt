use Rattle.std.proofs.Common.{◌+◌, arith}
use Rattle.edit.specs.States.{log_in, shapes_coming}
use Rattle.edit.proofs.Subtrees.{arrived-end, arrived-less, coming-none, coming-count, coming-more}
use Rattle.std.proofs.lemmas.Result.{err_from_is_err_and}
use Rattle.edit.proofs.Arriving.{arrived-refused}
use Rattle.edit.proofs.edge.Edge.+join.Goals as goal

pub returns-in_default-clause-joined : goal.returns-in_default-clause-joined
returns-in_default-clause-joined g t c all w =
    let n = c.in_default.ensures.cases in
    arrived-end g.D.Digest.digest_of all c.args.depth (shapes_coming c.args.coming.items) c.args.self.now.levels.items
    c.args.self.now.rest (log_in c.args.self.now) (coming-none c.args.coming.items (omega (arith, n.0))) w

pub returns-clause-joined : goal.returns-clause-joined
returns-clause-joined g t c all w =
    let new = c.join_rows.new.self in
    let d = c.args.depth + c.len.result in
    let n = coming-count c.pop.new.self.items in
    c.join.ensures.joined all (arrived-less g.D.Digest.digest_of all c.args.depth d (shapes_coming c.args.coming.items)
    (shapes_coming c.pop.new.self.items) c.in-Some.rows.rest c.args.self.now.levels.items new.levels.items c.args.self.now.rest
    new.rest (log_in c.args.self.now) (log_in new)
    (coming-more c.args.coming.items c.pop.new.self.items c.in-Some.rows c.in-Some.ensures.items)
    (omega (arith, n, c.len.ensures)) w c.in_ok-join_rows.ensures.joined)

pub returns-in_err-join_rows-clause-fault : goal.returns-in_err-join_rows-clause-fault
returns-in_err-join_rows-clause-fault g t c all w =
    let p = err_from_is_err_and c.from_residual.result c.from_residual.ensures.1 in
    let d = c.args.depth + c.len.result in
    let n = coming-count c.pop.new.self.items in
    rw (p.1, p.2)
    (arrived-refused g.D.Digest.digest_of all c.args.depth d (shapes_coming c.args.coming.items)
    (shapes_coming c.pop.new.self.items) c.in-Some.rows.rest c.args.self.now.levels.items c.args.self.now.rest
    (log_in c.args.self.now) c.in_err-join_rows.field-0.0
    (coming-more c.args.coming.items c.pop.new.self.items c.in-Some.rows c.in-Some.ensures.items)
    (omega (arith, n, c.len.ensures)) w c.in_err-join_rows.ensures.fault)

pub returns-clause-fault : goal.returns-clause-fault
returns-clause-fault g t c all w =
    let new = c.join_rows.new.self in
    let d = c.args.depth + c.len.result in
    let n = coming-count c.pop.new.self.items in
    c.join.ensures.fault all (arrived-less g.D.Digest.digest_of all c.args.depth d (shapes_coming c.args.coming.items)
    (shapes_coming c.pop.new.self.items) c.in-Some.rows.rest c.args.self.now.levels.items new.levels.items c.args.self.now.rest
    new.rest (log_in c.args.self.now) (log_in new)
    (coming-more c.args.coming.items c.pop.new.self.items c.in-Some.rows c.in-Some.ensures.items)
    (omega (arith, n, c.len.ensures)) w c.in_ok-join_rows.ensures.joined)

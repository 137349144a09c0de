use Rattle.std.specs.Prelude.{IfNone}
use Rattle.std.proofs.Common.{subst}
use Rattle.rows.specs.Entries.{shape_at}
use Rattle.edit.specs.Passing.{IsTaken}
use Rattle.edit.proofs.Results.{if-ok, if-err}
use Rattle.edit.proofs.Untouched.{taken-then, untaken-then}
use Rattle.edit.proofs.level.copy_untouched.Goals as goal

pub returns-in_default-clause-taken : goal.returns-in_default-clause-taken
returns-in_default-clause-taken g c =
    let k = c.args.layer in
    let cs = c.args.changes.now in
    let old = c.args.written.now in
    let mid = c.copy_next.new.written in
    let new = c.run_untouched-in_default.new.written in
    let node = c.args.rows.now.rest in
    let left = c.copy_next.new.rows.rest in
    let rows = c.run_untouched-in_default.new.rows in
    if-ok c.run_untouched-in_default.result
    (λ ahead t. taken-then k cs old mid new node left (shape_at ahead.0 ahead.1 rows)
    (subst (λ n. IfNone n (IsTaken k cs old node mid left)) c.in_default.is c.in_ok-next.ensures.came) t)
    c.run_untouched-in_default.ensures.taken

pub returns-in_default-clause-fault : goal.returns-in_default-clause-fault
returns-in_default-clause-fault g c =
    let k = c.args.layer in
    let cs = c.args.changes.now in
    let old = c.args.written.now in
    let mid = c.copy_next.new.written in
    let node = c.args.rows.now.rest in
    let left = c.copy_next.new.rows.rest in
    if-err c.run_untouched-in_default.result
    (λ fault u. untaken-then k cs old mid node left fault
    (subst (λ n. IfNone n (IsTaken k cs old node mid left)) c.in_default.is c.in_ok-next.ensures.came) u)
    c.run_untouched-in_default.ensures.fault

use Rattle.std.proofs.Common.{rules}
use Rattle.std.proofs.lemmas.Result.{err_from_is_err_and}
use Rattle.rows.specs.Entries.{shape_at}
use Rattle.edit.specs.States.{log_in}
use Rattle.edit.proofs.Untouched.{pass-below, refused-below}
use Rattle.edit.proofs.edge.Edge.pass_open.Goals as goal

pub returns-in_err-taken : goal.returns-in_err-taken
returns-in_err-taken g c =
    let p = err_from_is_err_and c.from_residual.result c.from_residual.ensures.1 in
    rw (p.1, p.2)
    (record {
      passed = tt;
      log = search rules;
      budget = search rules;
      fault = (refused-below c.args.layer c.args.depth c.args.changes.now c.args.rows.now.rest c.args.self.now.levels.items
          c.pop.new.self.items c.in-Some.level c.args.self.now.rest (log_in c.args.self.now) c.in_err-taken.field-0.0
          c.requires.open c.requires.clear c.in-Some.ensures.items c.in_err-taken.ensures.fault);
    })

pub returns : goal.returns
returns g c =
    let next = c.in_ok-taken.taken in
    let old = c.args.self.now in
    record {
      passed = pass-below c.args.layer c.args.depth c.args.changes.now c.args.rows.now.rest
          (shape_at next.0 next.1 c.copy_untouched.new.rows) old.levels.items c.pop.new.self.items c.push.new.self.items
          c.in-Some.level c.copy_untouched.new.written old.rest old.rest c.requires.open c.requires.clear c.requires.clear c.in-Some.ensures.items
          c.in_ok-taken.ensures.taken c.in_ok-push.ensures.items;
      log = search rules;
      budget = search rules;
      fault = tt;
    }

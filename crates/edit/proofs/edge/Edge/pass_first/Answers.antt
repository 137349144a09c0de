use Rattle.std.proofs.Common.{◌∙◌, sym, subst, rules}
use Rattle.std.proofs.lemmas.Result.{err_from_is_err_and}
use Rattle.rows.specs.Entries.{shape_at}
use Rattle.edit.specs.Passing.{IsPassed}
use Rattle.edit.specs.States.{edge_in, log_in}
use Rattle.edit.proofs.Untouched.{pass-opens, pass-nothing, refused-first}
use Rattle.edit.proofs.edge.Edge.pass_first.Goals as goal
use Rattle.edit.proofs.edge.Edge.pass_first.Goals.{then-has_pairs+in_ok-push, else-has_pairs+in-Nothing-1, else-has_pairs+in-Open-1}

pub returns-in_err-taken : goal.returns-in_err-taken
returns-in_err-taken g c =
    let p = err_from_is_err_and c.from_residual-in_err-taken.result c.from_residual-in_err-taken.ensures.1 in
    rw (p.1, p.2)
    (record {
      passed = tt;
      log = search rules;
      budget = search rules;
      fault = (refused-first c.args.layer c.args.depth c.args.changes.now c.args.rows.now.rest c.args.self.now.levels.items
          c.new-level.result c.args.self.now.rest (log_in c.args.self.now) c.in_err-taken.field-0.0
          c.requires.closed c.requires.clear c.new-level.ensures c.in_err-taken.ensures.fault);
    })

pub returns : goal.returns
returns g c =
    let k = c.args.layer in
    let d = c.args.depth in
    let cs = c.args.changes.now in
    let next = c.in_ok-taken.taken in
    let node = c.args.rows.now.rest in
    let rest = shape_at next.0 next.1 c.copy_untouched.new.rows in
    let old = c.args.self.now in
    record {
      passed = elim c.if-has_pairs.branch [
        | then-has_pairs+in_ok-push w ↦
            subst (λ s. IsPassed k d cs node rest (edge_in old) (edge_in s)) (sym w.self-is)
            (pass-opens k d cs node rest old.levels.items w.push.new.self.items c.new-level.result c.copy_untouched.new.written old.rest old.rest
            c.requires.closed c.requires.clear c.requires.clear c.new-level.ensures c.in_ok-taken.ensures.taken
            (sym c.has_pairs.ensures ∙ w.if-has_pairs.true) w.in_ok-push.ensures.items)
        | else-has_pairs+in-Nothing-1 w ↦
            subst (λ s. IsPassed k d cs node rest (edge_in old) (edge_in s)) (sym w.self-is)
            (pass-nothing k d cs node rest (edge_in old) c.new-level.result c.copy_untouched.new.written c.new-level.ensures c.in_ok-taken.ensures.taken
            (sym c.has_pairs.ensures ∙ w.if-has_pairs.false))
        | else-has_pairs+in-Open-1 w ↦
            subst (λ s. IsPassed k d cs node rest (edge_in old) (edge_in s)) (sym w.self-is)
            (pass-nothing k d cs node rest (edge_in old) c.new-level.result c.copy_untouched.new.written c.new-level.ensures c.in_ok-taken.ensures.taken
            (sym c.has_pairs.ensures ∙ w.if-has_pairs.false))
      ];
      log = search rules;
      budget = search rules;
      fault = tt;
    }

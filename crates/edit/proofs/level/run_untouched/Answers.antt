use Rattle.std.proofs.Common.{◌≡◌, ◌≤◌, [], ◌++◌, length, length-append, sym, ap, subst, ◌∙◌, arith}
use Rattle.std.proofs.lemmas.List.{append_assoc}
use Rattle.spec.specs.NodeFormat.{first_link}
use Rattle.rows.specs.Entries.{shape_at, part_of, key_behind}
use Rattle.edit.specs.Passing.{IsTaken}
use Rattle.edit.proofs.Runs.{part-long, run-follows}
use Rattle.edit.proofs.Untouched.{taken-more, taken-run}
use Rattle.edit.proofs.level.run_untouched.Goals as goal

pub returns-in-Some-clause-taken : goal.returns-in-Some-clause-taken
returns-in-Some-clause-taken g c =
    let at = c.loop-value in
    let old = c.start_here.new.self in
    let new = c.touched.new.rows in
    let written = c.args.written.now in
    let value = c.in-Some.value in
    let part = part_of new.start c.passed-to.result new.passed in
    subst (λ node. IsTaken c.args.layer c.args.changes.now written node c.run.new.self (shape_at c.to_cid.result value new))
    c.start_here.ensures.rest
    (subst (λ s. IsTaken c.args.layer c.args.changes.now written old.rest c.run.new.self s)
    (c.in-Some.ensures.touched.next_is ∙ ap (λ l. shape_at l value new) (sym (c.to_cid.ensures ∙ c.link-after.ensures)))
    (taken-run c.args.layer c.args.changes.now old.passed at.rows.passed c.in-Some.ensures.touched.last new.passed written
    c.run.new.self old.rest at.rows.rest new.start c.passed-to.result (c.in-Some.ensures.touched.start_is ∙ at.invariant.start)
    c.passed-to.ensures c.in-Some.ensures.touched.passed_is at.invariant.taken
    (c.in_ok-run.ensures ∙ ap (λ xs. xs ++ part) at.invariant.written)))

pub loop-value-preserved : goal.loop-value-preserved
loop-value-preserved g c =
    let at = c.loop-value in
    let old = c.start_here.new.self in
    let new = c.touched.new.rows in
    let more = c.in_default.ensures.untouched in
    record {
      written = at.invariant.written;
      start = more.start_is ∙ at.invariant.start;
      taken = taken-more c.args.layer c.args.changes.now old.passed at.rows.passed new.passed old.rest at.rows.rest new.rest
          (first_link at.rows.rest) more.pair at.invariant.taken more.next_is more.untouched more.passed_is;
    }

pub run-requires-clause-follows : goal.run-requires-clause-follows
run-requires-clause-follows g c =
    let at = c.loop-value in
    let old = c.start_here.new.self in
    let new = c.touched.new.rows in
    let t = c.in-Some.ensures.touched in
    let more = at.invariant.taken.more in
    run-follows old.passed (more ++ t.last) new.passed at.written c.args.rows.now.before new.start
    (t.start_is ∙ at.invariant.start)
    (t.passed_is ∙ ap (λ xs. xs ++ t.last) at.invariant.taken.new_is ∙ append_assoc old.passed more t.last)
    (ap (key_behind []) c.start_here.ensures.passed ∙ c.start_here.ensures.key)
    (ap (key_behind []) at.invariant.written ∙ c.requires.follows)

pub run-requires-clause-order : goal.run-requires-clause-order
run-requires-clause-order g c =
    let at = c.loop-value in
    let old = c.start_here.new.self in
    let t = c.in-Some.ensures.touched in
    let long = part-long old.passed at.invariant.taken.more at.rows.passed c.touched.new.rows.start c.passed-to.result
    (t.start_is ∙ at.invariant.start) c.passed-to.ensures at.invariant.taken.new_is in
    omega (arith, long)

pub run-requires-clause-near : goal.run-requires-clause-near
run-requires-clause-near g c =
    let at = c.loop-value in
    let t = c.in-Some.ensures.touched in
    let size = length-append at.rows.passed t.last in
    let same : length c.touched.new.rows.passed ≡ length (at.rows.passed ++ t.last) = ap length t.passed_is in
    let few : length t.last ≤ 1 = t.few in
    let to_is : c.passed-to.result ≡ length at.rows.passed = c.passed-to.ensures in
    omega (arith, size, same, few, to_is)

pub run-requires-clause-within : goal.run-requires-clause-within
run-requires-clause-within g c =
    let at = c.loop-value in
    let t = c.in-Some.ensures.touched in
    let size = length-append at.rows.passed t.last in
    let same : length c.touched.new.rows.passed ≡ length (at.rows.passed ++ t.last) = ap length t.passed_is in
    let to_is : c.passed-to.result ≡ length at.rows.passed = c.passed-to.ensures in
    omega (arith, size, same, to_is)

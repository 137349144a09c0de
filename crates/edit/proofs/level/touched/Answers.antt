use Rattle.std.proofs.Common.{[], ◌∷◌, refl, sym, ap, subst, ◌∙◌, arith}
use Rattle.std.proofs.lemmas.List.{append-nil}
use Rattle.rows.specs.Entries.{Reading}
use Rattle.cid.specs.CidRef.{bytes_of}
use Rattle.spec.specs.NodeFormat.{MoreLinks, first_link}
use Rattle.edit.specs.Passing.{IsUntouched}
use Rattle.edit.proofs.Untouched.{some-mapped}
use Rattle.edit.proofs.level.touched.Goals as goal

pub returns-then-is_untouched-clause-untouched : goal.returns-then-is_untouched-clause-untouched
returns-then-is_untouched-clause-untouched g c =
    let link = first_link c.args.rows.now.rest in
    record {
      pair = (c.next.new.self.before, bytes_of c.in-Some.value);
      next_is = c.in-Some.ensures.some;
      passed_is = c.in-Some.ensures.passed;
      start_is = c.next.ensures.start;
      untouched = subst (IsUntouched c.args.layer c.args.changes.now link) c.key.ensures
          (c.if-is_untouched.ensures link
          (c.is_some-has_link.ensures ∙ some-mapped bytes_of c.link.result link c.link.ensures) refl);
    }

pub returns-in_default-clause-touched : goal.returns-in_default-clause-touched
returns-in_default-clause-touched g c = record {
  last = [];
  next_is = c.in_default.ensures.none;
  passed_is = ap (λ (r : Reading). r.passed) c.in_default.ensures.unchanged ∙ sym (append-nil c.args.rows.now.passed);
  few = omega arith;
  start_is = c.next.ensures.start;
}

pub returns-clause-touched : goal.returns-clause-touched
returns-clause-touched g c =
    let link = first_link c.args.rows.now.rest in
    let new = c.next.new.self in
    record {
      last = (link, (new.before, bytes_of c.in-Some.value)) ∷ [];
      next_is = c.in-Some.ensures.some ∙ ap (λ v. MoreLinks link (new.before, v) new.rest) (sym c.to_cid.ensures);
      passed_is = c.in-Some.ensures.passed;
      few = omega arith;
      start_is = c.next.ensures.start;
    }

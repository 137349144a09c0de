use Rattle.std.proofs.Common.{◌≡◌, ◌∙◌, List, map, true, ap, subst, sym}
use Rattle.std.proofs.lemmas.Result.{err_from_is_err_and}
use Rattle.spec.specs.Cid.{cid}
use Rattle.spec.specs.NodeFormat.{shape_bytes}
use Rattle.edit_laws.specs.Pairs.{Ascending}
use Rattle.difference_laws.specs.Lines.{links_in, pairs_of}
use Rattle.difference_laws.specs.Laws.{IsDifference}
use Rattle.difference.specs.Merged.{pairs_in, changes_told}
use Rattle.difference.specs.Sides.{line_of, shapes_in}
use Rattle.difference.specs.Starts.{side_in}
use Rattle.difference.proofs.Outcomes.{come-length, go-length, left-none, pairs-line, right-none, unsorted-end}
use Rattle.difference.proofs.comparing.tell.Goals as goal

pub returns-then-not-has_no_links-clause-fault : goal.returns-then-not-has_no_links-clause-fault
returns-then-not-has_no_links-clause-fault g c = λ e.
    let f = c.if-not-has_no_links.true in
    let t : c.has_no_links.result ≡ true = c.has_no_links.ensures.1
    (left-none (links_in (line_of c.args.old.line)) (links_in (line_of c.args.new.line)) e) in
    absurd cc

pub returns-then-not-has_no_links-2-clause-fault : goal.returns-then-not-has_no_links-2-clause-fault
returns-then-not-has_no_links-2-clause-fault g c = λ e.
    let f = c.if-not-has_no_links-2.true in
    let t : c.has_no_links-2.result ≡ true = c.has_no_links-2.ensures.1
    (right-none (links_in (line_of c.args.old.line)) (links_in (line_of c.args.new.line)) e) in
    absurd cc

pub returns-in_err-changes-clause-fault : goal.returns-in_err-changes-clause-fault
returns-in_err-changes-clause-fault g c =
    let p = err_from_is_err_and c.from_residual-in_err-changes.result c.from_residual-in_err-changes.ensures.1 in
    let old = c.args.old in
    let new = c.args.new in
    rw (p.1, p.2)
    (unsorted-end (side_in old) (side_in new) (pairs_in old.line.rows.items) (pairs_in new.line.rows.items)
    c.in_err-changes.field-0.0 (c.has_no_links.ensures.0 c.if-not-has_no_links.false)
    (c.has_no_links-2.ensures.0 c.if-not-has_no_links-2.false) (pairs-line old.line.rows.items old.line.last)
    (pairs-line new.line.rows.items new.line.last) c.in_err-changes.ensures.fault)

pub returns-clause-told : goal.returns-clause-told
returns-clause-told g c =
    let old = c.args.old in
    let new = c.args.new in
    let olds = sym (pairs-line old.line.rows.items old.line.last) in
    let news = sym (pairs-line new.line.rows.items new.line.last) in
    record {
      old_ends = c.has_no_links.ensures.0 c.if-not-has_no_links.false;
      new_ends = c.has_no_links-2.ensures.0 c.if-not-has_no_links-2.false;
      old_ascends = subst Ascending olds c.in_ok-changes.ensures.ascending.0;
      new_ascends = subst Ascending news c.in_ok-changes.ensures.ascending.1;
      differ = subst (λ z. IsDifference (changes_told c.in_ok-changes.changes.items) (pairs_of (line_of old.line)) z) news
          (subst (λ z. IsDifference (changes_told c.in_ok-changes.changes.items) z (pairs_in new.line.rows.items)) olds
          c.in_ok-changes.ensures.changes);
      come_are = c.in_ok-come.ensures ∙ ap (λ (z : List _). map shape_bytes (shapes_in z)) c.deref-2.ensures.value;
      go_are = c.in_ok-go.ensures
          ∙ ap (λ (z : List _). map (cid g.D.Digest.digest_of) (map shape_bytes (shapes_in z))) c.deref.ensures.value;
    }

pub returns-clause-lengths : goal.returns-clause-lengths
returns-clause-lengths g c = (
  come-length c.in_ok-come.come.items c.args.new.read.items
      (c.in_ok-come.ensures ∙ ap (λ (z : List _). map shape_bytes (shapes_in z)) c.deref-2.ensures.value),
  go-length g.D.Digest.digest_of c.in_ok-go.go.items c.args.old.read.items
      (c.in_ok-go.ensures
      ∙ ap (λ (z : List _). map (cid g.D.Digest.digest_of) (map shape_bytes (shapes_in z))) c.deref.ensures.value),
)

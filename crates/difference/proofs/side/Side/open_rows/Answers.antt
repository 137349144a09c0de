use Rattle.std.proofs.Common.{◌≡◌, ◌∙◌, ℕ, List, None, length, ap, subst, sym, arith}
use Rattle.std.proofs.lemmas.Result.{err_from_is_err_and}
use Rattle.std.specs.Vec.Iter.{into_iter_items}
use Rattle.spec.specs.NodeFormat.{Shape}
use Rattle.batch_laws.specs.Links.{onto_links}
use Rattle.lookups.specs.Steps.{nodes_given}
use Rattle.difference_laws.specs.Lines.{Opened, opened}
use Rattle.difference.specs.Sides.{IsLackAt, IsSpread, rows_of, rows_without, shapes_in, waiting}
use Rattle.difference.proofs.Needing.{among-next}
use Rattle.difference.proofs.Opens.{none-alone, no-top, no-top-after, own-links, row-step, row-stops, rows-end, spread-longer}
use Rattle.difference.proofs.side.Side.open_rows.Goals as goal

pub returns-in_err-link-clause-stopped : goal.returns-in_err-link-clause-stopped
returns-in_err-link-clause-stopped g c =
    let p = err_from_is_err_and c.from_residual.result c.from_residual.ensures.1 in
    let at = c.loop-row in
    let gives = g.S.Source.gives c.args.src.now in
    let keys = c.args.shared.now.keys in
    let next = c.in-Some.ensures.steps.0 in
    let whole : Shape → Opened = λ r. opened (nodes_given gives) (onto_links (rows_without keys (rows_of c.args.rows.items)) r)
    (shapes_in c.args.self.now.read.items) in
    let lack = subst (λ (v : List ℕ → _). IsLackAt v (nodes_given v) c.unless.result c.in_err-link.field-0.0) at.invariant.same
    c.in_err-link.ensures.lack in
    rw (p.1, p.2)
    (row-stops gives (nodes_given gives) keys whole c.in-Some.row (into_iter_items at.row-iterator)
    (into_iter_items c.next.new.self) next (rows_of at.self.line.rows.items) (shapes_in at.self.read.items) c.unless.result
    (c.unless.ensures keys (own-links c.args.shared.now)) at.invariant.opened_so c.in_err-link.field-0.0 lack)

pub loop-row-preserved : goal.loop-row-preserved
loop-row-preserved g c =
    let at = c.loop-row in
    let gives = g.S.Source.gives c.args.src.now in
    let keys = c.args.shared.now.keys in
    let next = c.in-Some.ensures.steps.0 in
    let whole : Shape → Opened = λ r. opened (nodes_given gives) (onto_links (rows_without keys (rows_of c.args.rows.items)) r)
    (shapes_in c.args.self.now.read.items) in
    let then = c.spread.new.self in
    let spread = subst (λ (v : List ℕ → _). IsSpread (nodes_given v) c.unless.result (rows_of at.self.line.rows.items)
    (rows_of then.line.rows.items) (shapes_in at.self.read.items) (shapes_in then.read.items) c.in_ok-link.link) at.invariant.same
    c.in_ok-link.ensures.spread in
    let none : at.self.top ≡ None = no-top at.self.top (into_iter_items at.row-iterator) c.in-Some.row
    (into_iter_items c.next.new.self) at.invariant.alone next in
    let still : then.top ≡ None = c.in_ok-link.ensures.top ∙ no-top-after c.unless.result at.self.top none in
    record {
      opened_so = row-step gives (nodes_given gives) keys whole c.in-Some.row (into_iter_items at.row-iterator)
          (into_iter_items c.next.new.self) next (rows_of at.self.line.rows.items) (shapes_in at.self.read.items)
          c.unless.result (c.unless.ensures keys (own-links c.args.shared.now)) at.invariant.opened_so
          (rows_of then.line.rows.items) (rows_of c.push.new.self.items) (shapes_in then.read.items) c.in_ok-link.link spread
          (rows-end c.push.new.self.items then.line.rows.items
          (record { link = c.in_ok-link.link; key = c.in-Some.row.key; value = c.in-Some.row.value })
          c.in_ok-push.ensures.items);
      alone = none-alone then.top (into_iter_items c.next.new.self) still;
      many = let was = at.invariant.many in let gone = c.in-Some.ensures.steps.1 in let short = ap length next in omega arith;
      counted = let a : waiting at.self.top ≡ 0 = ap waiting none in let b : waiting then.top ≡ 0 = ap waiting still in
          let k = c.in_ok-link.ensures.counted in let l = at.invariant.counted in omega arith;
      most = let k = c.in_ok-link.ensures.most in let l = at.invariant.most in
          let next_row = among-next keys (into_iter_items at.row-iterator) c.in-Some.row (into_iter_items c.next.new.self) next
          c.unless.result (c.unless.ensures keys (own-links c.args.shared.now)) in
          omega arith;
      grown = let k = spread-longer (nodes_given gives) c.unless.result (rows_of at.self.line.rows.items)
          (rows_of then.line.rows.items) c.in_ok-link.link at.self.read.items then.read.items spread in
          let l = at.invariant.grown in omega arith;
      same = c.in_ok-link.ensures.same ∙ at.invariant.same;
      top = still ∙ sym none ∙ at.invariant.top;
      after = c.in_ok-link.ensures.after ∙ at.invariant.after;
      left = c.in_ok-link.ensures.left ∙ at.invariant.left;
    }

pub returns-in_err-link-clause-most : goal.returns-in_err-link-clause-most
returns-in_err-link-clause-most g c =
    let at = c.loop-row in
    let keys = c.args.shared.now.keys in
    let k = c.in_err-link.ensures.most in
    let l = at.invariant.most in
    let next = among-next keys (into_iter_items at.row-iterator) c.in-Some.row (into_iter_items c.next.new.self)
    c.in-Some.ensures.steps.0 c.unless.result (c.unless.ensures keys (own-links c.args.shared.now)) in
    omega arith

pub returns-in_err-push-clause-most : goal.returns-in_err-push-clause-most
returns-in_err-push-clause-most g c =
    let at = c.loop-row in
    let keys = c.args.shared.now.keys in
    let k = c.in_ok-link.ensures.most in
    let l = at.invariant.most in
    let next = among-next keys (into_iter_items at.row-iterator) c.in-Some.row (into_iter_items c.next.new.self)
    c.in-Some.ensures.steps.0 c.unless.result (c.unless.ensures keys (own-links c.args.shared.now)) in
    omega arith

pub returns-clause-most : goal.returns-clause-most
returns-clause-most g c = let l = c.loop-row.invariant.most in omega arith

use Rattle.std.proofs.Common.{◌≡◌, ℕ, ◌∷◌, [], List, Option, option_map, arith, sym, ap, ◌∙◌}
use Rattle.std.specs.declared.cmp.Ordering.TheVariants.{Less, Equal, Greater}
use Rattle.cid.specs.CidRef.{bytes_of}
use Rattle.node.specs.Contents.{Contents}
use Rattle.node.specs.Rows.{rows}
use Rattle.node.specs.Search.{order_after}
use Rattle.node.specs.Views.{row_of}
use Rattle.node.proofs.Finding.{gap_found, gap_found-before, gap_found-less, gap_found-here, gap_found-past, row_found, row_found-with, row_found-less, row_found-here, row_found-past}
use Rattle.node.proofs.view.NodeView.seek.Goals as goal

pub loop-entry-init : goal.loop-entry-init
loop-entry-init c =
    let node = c.args.self.now in
    let key = c.args.key.now in
    let all : c.into_iter-entry-iterator.result ≡ rows [] node.entries = c.into_iter-entry-iterator.ensures.into_iter_gives ∙ c.entries-entry-items.ensures.rows in
    let left : option_map bytes_of c.self.inside.left ≡ node.left = ap (λ (w : Contents). w.left) c.self.view_is in
    record {
      can = tt;
      ends = tt;
      within = omega arith;
      gap = ap (gap_found key 0 (option_map bytes_of c.self.inside.left)) all ∙ ap (λ (gap : Option (List ℕ)). gap_found key 0 gap (rows [] node.entries)) left
          ∙ gap_found-before key node.left node.entries c.entries-entry-items.ensures.ascending;
      row = ap (row_found key 0) all ∙ row_found-with key node.entries c.entries-entry-items.ensures.ascending;
    }

pub loop-entry-preserved : goal.loop-entry-preserved
loop-entry-preserved c =
    let key = c.args.key.now in
    let l = c.loop-entry in
    let row = row_of c.in-Some.entry in
    let gap = option_map bytes_of l.gap in
    let less : order_after l.same key row ≡ Less = sym c.compare_after-order.ensures.order ∙ c.in-Less.is in
    let steps : l.entry-iterator ≡ row ∷ c.next.new.self = c.in-Some.ensures.steps in
    record {
      can = tt;
      ends = tt;
      within = c.compare_after-order.ensures.within;
      gap = ap (λ (n : ℕ). gap_found key n row.tree c.next.new.self) c.compare_after-order.ensures.same ∙ sym (gap_found-less key l.same gap row c.next.new.self less)
          ∙ ap (gap_found key l.same gap) (sym steps) ∙ l.invariant.gap;
      row = ap (λ (n : ℕ). row_found key n c.next.new.self) c.compare_after-order.ensures.same ∙ sym (row_found-less key l.same row c.next.new.self less)
          ∙ ap (row_found key l.same) (sym steps) ∙ l.invariant.row;
    }

pub returns-in-Equal-clause-gap : goal.returns-in-Equal-clause-gap
returns-in-Equal-clause-gap c =
    let key = c.args.key.now in
    let l = c.loop-entry in
    let row = row_of c.in-Some.entry in
    let gap = option_map bytes_of l.gap in
    let here : order_after l.same key row ≡ Equal = sym c.compare_after-order.ensures.order ∙ c.in-Equal.is in
    sym (sym l.invariant.gap ∙ ap (gap_found key l.same gap) c.in-Some.ensures.steps ∙ gap_found-here key l.same gap row c.next.new.self here)

pub returns-in-Equal-clause-row : goal.returns-in-Equal-clause-row
returns-in-Equal-clause-row c =
    let key = c.args.key.now in
    let l = c.loop-entry in
    let row = row_of c.in-Some.entry in
    let here : order_after l.same key row ≡ Equal = sym c.compare_after-order.ensures.order ∙ c.in-Equal.is in
    sym (sym l.invariant.row ∙ ap (row_found key l.same) c.in-Some.ensures.steps ∙ row_found-here key l.same row c.next.new.self here)

pub returns-in-Greater-clause-gap : goal.returns-in-Greater-clause-gap
returns-in-Greater-clause-gap c =
    let key = c.args.key.now in
    let l = c.loop-entry in
    let row = row_of c.in-Some.entry in
    let gap = option_map bytes_of l.gap in
    let past : order_after l.same key row ≡ Greater = sym c.compare_after-order.ensures.order ∙ c.in-Greater.is in
    sym (sym l.invariant.gap ∙ ap (gap_found key l.same gap) c.in-Some.ensures.steps ∙ gap_found-past key l.same gap row c.next.new.self past)

pub returns-in-Greater-clause-row : goal.returns-in-Greater-clause-row
returns-in-Greater-clause-row c =
    let key = c.args.key.now in
    let l = c.loop-entry in
    let row = row_of c.in-Some.entry in
    let past : order_after l.same key row ≡ Greater = sym c.compare_after-order.ensures.order ∙ c.in-Greater.is in
    sym (sym l.invariant.row ∙ ap (row_found key l.same) c.in-Some.ensures.steps ∙ row_found-past key l.same row c.next.new.self past)
